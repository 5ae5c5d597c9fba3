-- The two wide fields, of 32 bits and of 48: the bits of an element, the modulus, and the lifts of 1, 2, 4, .. 128, which are the powers of y.
use Rattle.std.specs.Prelude.{List, ℕ}
use Rattle.field.specs.Wide32.{low32, powers32}
use Rattle.wide48.specs.Wide48.{low48, powers48}
use Rattle.lifts.specs.declared.Field.{Field}
use Rattle.lifts.specs.declared.Field.TheVariants.{Bits32, Bits48}

abbrev pub bits_of : Field → ℕ
bits_of Bits32 = 32
bits_of Bits48 = 48

abbrev pub low_of : Field → ℕ
low_of Bits32 = low32
low_of Bits48 = low48

abbrev pub powers_in : Field → List ℕ
powers_in Bits32 = powers32
powers_in Bits48 = powers48
