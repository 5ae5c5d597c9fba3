-- The parameter sets with their hash and circuit, and their figures, which follow by computation.
use Rattle.std.specs.Prelude.{◌≡◌, refl, ℕ, eqb, take, drop}
use Rattle.slices.specs.Lists.{choose}
use Rattle.field.specs.Wide32.{low32, y32}
use Rattle.wide48.specs.Wide48.{low48, y48}
use Rattle.shake.specs.Shake128.{shake128}
use Rattle.aes.specs.Aes.{key_expansion, aes, sbox_inputs, even_mansour, even_mansour_inputs}
use Rattle.circuit.specs.Circuit.{input_shares, output_share, even_mansour_input_shares, even_mansour_output_share}
use Rattle.banquet.specs.declared.Shape.{Shape}
use Rattle.banquet.specs.Figures.{Figures, figures_of}
use Rattle.banquet.specs.Scheme.{Circuit, Scheme}

-- ---- document 01

-- "with 16 parties, 41 executions, lift factor 4, m1 = 10 and m2 = 20"
abbrev pub base : Shape
base = record { parties = 16; depth = 4; executions = 41; wide = 4; low = low32; y = y32; m1 = 10; m2 = 20; front = 16 }

-- AES with its key schedule
abbrev pub aes_circuit : Circuit
aes_circuit = record {
  sbox_inputs = λ plaintext key. sbox_inputs key plaintext;
  encrypt = λ plaintext key. aes key plaintext;
  input_shares = λ plaintext. input_shares plaintext;
  output_share = λ plaintext. output_share;
}

-- the Even-Mansour form
abbrev pub even_mansour_circuit : Circuit
even_mansour_circuit = record {
  sbox_inputs = λ front key. even_mansour_inputs (take 16 front) (drop 16 front) key;
  encrypt = λ front key. even_mansour (take 16 front) (drop 16 front) key;
  input_shares = λ front. even_mansour_input_shares (key_expansion (take 16 front)) (drop 16 front);
  output_share = λ front. even_mansour_output_share (key_expansion (take 16 front));
}

-- AES where the front of a public key is the plaintext, and the Even-Mansour form where it is AES key and x
abbrev pub circuit_of : ℕ → Circuit
circuit_of front = choose (eqb front 16) aes_circuit even_mansour_circuit

-- "AES-128 is FIPS 197, SHAKE128 is FIPS 202."
abbrev pub scheme_of : Shape → Scheme
scheme_of S = record { shape = S; hash = shake128; circuit = circuit_of S.front }

abbrev pub base_scheme : Scheme
base_scheme = scheme_of base

-- ---- document 02

-- slip 7: "107 parties, 24 executions and lift factor 6"
abbrev pub short : Shape
short = record { parties = 107; depth = 7; executions = 24; wide = 6; low = low48; y = y48; m1 = 10; m2 = 20; front = 16 }

abbrev pub short_scheme : Scheme
short_scheme = scheme_of short

-- slip 14: "There are 160 S-boxes", "m1 = 8", "m2 = 20"; AES key and x stand before the ciphertext
abbrev pub schedule_free : Shape
schedule_free = record { parties = 16; depth = 4; executions = 41; wide = 4; low = low32; y = y32; m1 = 8; m2 = 20; front = 32 }

abbrev pub schedule_free_scheme : Scheme
schedule_free_scheme = scheme_of schedule_free

-- ---- the circuit of each

pub base_circuit : base_scheme.circuit ≡ aes_circuit
base_circuit = refl

pub short_circuit : short_scheme.circuit ≡ aes_circuit
short_circuit = refl

pub schedule_free_circuit : schedule_free_scheme.circuit ≡ even_mansour_circuit
schedule_free_circuit = refl

-- ---- figures

abbrev pub base_figures : Figures
base_figures = record {
  -- "with 16 parties, 41 executions, lift factor 4, m1 = 10 and m2 = 20"; "has at most 40 roots"; "A wide element is a 32-bit number"
  parties = 16;
  executions = 41;
  columns = 10;
  rows = 20;
  roots = 40;
  bits = 32;
  -- "public key (plaintext 16 bytes, ciphertext 16 bytes)"; "the ten given first draws aren't 40"; "The root seeds aren't 656 bytes"
  front = 16;
  public_key = 32;
  first_challenge = 40;
  root_seeds = 656;
  -- "gives a 380-byte tape"; "frames of 480"; "A seal is 19,776 bytes"; "all bytes before the hidden party"; "An opening is 2,554 bytes"
  tape = 380;
  frame = 480;
  signature = 19776;
  transcript = 2489;
  opening = 2554;
}

pub base_figures_lem : figures_of base ≡ base_figures
base_figures_lem = refl

-- slip 7: "107 parties, 24 executions and lift factor 6. Wide elements have 48 bits", "A frame is 612 bytes, so a seal is 14,784 bytes as in source
-- document 000 .. The tape is 462 bytes and root seeds are 384 .. An opening is 19,172 bytes with 60 of first draws."
abbrev pub short_figures : Figures
short_figures = record {
  parties = 107;
  executions = 24;
  columns = 10;
  rows = 20;
  roots = 40;
  bits = 48;
  front = 16;
  public_key = 32;
  first_challenge = 60;
  root_seeds = 384;
  tape = 462;
  frame = 612;
  signature = 14784;
  transcript = 19059;
  opening = 19172;
}

pub short_figures_lem : figures_of short ≡ short_figures
short_figures_lem = refl

-- slip 14: "The public key is 48 bytes: AES key, x, y.", "m1 = 8", "m2 = 20", "the other figures are those of set 0"; "The tape is 324 bytes, a frame
-- 424, a seal 17,496 with the tag, and an opening 2,250 with 32 of first draws." Without the tag a seal is 17,480.
abbrev pub schedule_free_figures : Figures
schedule_free_figures = record {
  parties = 16;
  executions = 41;
  columns = 8;
  rows = 20;
  roots = 40;
  bits = 32;
  front = 32;
  public_key = 48;
  first_challenge = 32;
  root_seeds = 656;
  tape = 324;
  frame = 424;
  signature = 17480;
  transcript = 2185;
  opening = 2250;
}

pub schedule_free_figures_lem : figures_of schedule_free ≡ schedule_free_figures
schedule_free_figures_lem = refl
