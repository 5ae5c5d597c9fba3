-- SHAKE128 gives as many bytes as are asked for. Assumes nothing.
use Rattle.std.specs.Prelude.{◌≡◌, refl, List, ℕ, zero, suc, ◌+◌, ◌*◌, ◌/◌, ◌%◌, ◌<◌, length, get_or}
use Rattle.std.proofs.Common.{◌∙◌, arith, length-append, length-take-le}
use Rattle.slices.specs.Lists.{tab}
use Rattle.slices.specs.Bytes.{Bytes, Sized, nil_bytes, append_bytes, take_bytes, tab_bytes}
use Rattle.slices.specs.Numbers.{bytes_of_bytes}
use Rattle.keccak.specs.Keccak.{keccak_f}
use Rattle.shake.specs.Padding.{rate}
use Rattle.shake.specs.Shake128.{byte_of, squeeze_blocks, shake128}

length_blocks : (n : ℕ) (a : List ℕ) → length (squeeze_blocks n a) ≡ n * rate
unfolding squeeze_blocks
length_blocks zero a = refl
length_blocks (suc n) a =
    length-append (tab (byte_of a) rate) (squeeze_blocks n (keccak_f a)) ∙ rw (length_blocks n (keccak_f a)) (omega arith)

pub length_shake : (m : List ℕ) (n : ℕ) → length (shake128 m n) ≡ n
unfolding shake128
length_shake m n = length-take-le n (squeeze_blocks (n / rate + 1) _) (rw (length_blocks (n / rate + 1) _) (omega arith))

byte_of_lt : (a : List ℕ) (p : ℕ) → byte_of a p < 256
unfolding byte_of
byte_of_lt a p = (bytes_of_bytes 8 (get_or a (p / 8) 0)).lt (p % 8)

blocks_bytes : (n : ℕ) (a : List ℕ) → Bytes (squeeze_blocks n a)
unfolding squeeze_blocks
blocks_bytes zero a = nil_bytes
blocks_bytes (suc n) a = append_bytes (tab_bytes rate (λ p l. byte_of_lt a p)) (blocks_bytes n (keccak_f a))

pub sized_shake : (m : List ℕ) (n : ℕ) → Sized n (shake128 m n)
unfolding shake128
sized_shake m n = record { size = length_shake m n; bytes = take_bytes n _ (blocks_bytes (n / rate + 1) _) }
