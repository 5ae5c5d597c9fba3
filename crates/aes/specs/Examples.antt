-- Examples of FIPS 197, computed. Assumes nothing.
use Rattle.std.specs.Prelude.{◌≡◌, refl, List, [], ◌∷◌, ℕ}
use Rattle.field.specs.Linear.{combine, orbit}
use Rattle.field.specs.Ring.{times, xtime}
use Rattle.field.specs.Field.{iterate, ones_power, inverse}
use Rattle.aes.specs.Aes.{sbox, matrix, shift_rows, mix_columns, sub_bytes, round_constants, round_key}

-- 5.1.1: the S-box of {53}
sbox_53 : sbox 0x53 ≡ 0xed
unfolding sbox matrix combine orbit times xtime inverse ones_power iterate
sbox_53 = refl

-- A.1: the first round key of an expansion
first_round_key :
    round_key (0x2b ∷ 0x7e ∷ 0x15 ∷ 0x16 ∷ 0x28 ∷ 0xae ∷ 0xd2 ∷ 0xa6 ∷ 0xab ∷ 0xf7 ∷ 0x15 ∷ 0x88 ∷ 0x09 ∷ 0xcf ∷ 0x4f ∷ 0x3c ∷ []) 1
    ≡ 0xa0 ∷ 0xfa ∷ 0xfe ∷ 0x17 ∷ 0x88 ∷ 0x54 ∷ 0x2c ∷ 0xb1 ∷ 0x23 ∷ 0xa3 ∷ 0x39 ∷ 0x39 ∷ 0x2a ∷ 0x6c ∷ 0x76 ∷ 0x05 ∷ []
unfolding round_key round_constants sbox matrix combine orbit times xtime inverse ones_power iterate
first_round_key = refl

-- B: round 1, from the state at its start to the state after MixColumns()
abbrev start : List ℕ
start = 0x19 ∷ 0x3d ∷ 0xe3 ∷ 0xbe ∷ 0xa0 ∷ 0xf4 ∷ 0xe2 ∷ 0x2b ∷ 0x9a ∷ 0xc6 ∷ 0x8d ∷ 0x2a ∷ 0xe9 ∷ 0xf8 ∷ 0x48 ∷ 0x08 ∷ []

abbrev after_sub_bytes : List ℕ
after_sub_bytes = 0xd4 ∷ 0x27 ∷ 0x11 ∷ 0xae ∷ 0xe0 ∷ 0xbf ∷ 0x98 ∷ 0xf1 ∷ 0xb8 ∷ 0xb4 ∷ 0x5d ∷ 0xe5 ∷ 0x1e ∷ 0x41 ∷ 0x52 ∷ 0x30 ∷ []

abbrev after_shift_rows : List ℕ
after_shift_rows = 0xd4 ∷ 0xbf ∷ 0x5d ∷ 0x30 ∷ 0xe0 ∷ 0xb4 ∷ 0x52 ∷ 0xae ∷ 0xb8 ∷ 0x41 ∷ 0x11 ∷ 0xf1 ∷ 0x1e ∷ 0x27 ∷ 0x98 ∷ 0xe5 ∷ []

abbrev after_mix_columns : List ℕ
after_mix_columns = 0x04 ∷ 0x66 ∷ 0x81 ∷ 0xe5 ∷ 0xe0 ∷ 0xcb ∷ 0x19 ∷ 0x9a ∷ 0x48 ∷ 0xf8 ∷ 0xd3 ∷ 0x7a ∷ 0x28 ∷ 0x06 ∷ 0x26 ∷ 0x4c ∷ []

sub_bytes_example : sub_bytes start ≡ after_sub_bytes
unfolding sbox matrix combine orbit times xtime inverse ones_power iterate
sub_bytes_example = refl

shift_rows_example : shift_rows after_sub_bytes ≡ after_shift_rows
shift_rows_example = refl

mix_columns_example : mix_columns after_shift_rows ≡ after_mix_columns
unfolding combine orbit times xtime
mix_columns_example = refl
