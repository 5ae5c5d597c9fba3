-- The wide field of 48 bits, and the lift of bytes into it by the smallest root y of y^8 + y^4 + y^3 + y + 1. Assumes nothing.
use Rattle.std.specs.Prelude.{◌≡◌, refl, List, [], ◌∷◌, ℕ}
use Rattle.field.specs.Linear.{combine, orbit, basis}
use Rattle.field.specs.Ring.{xtime, times, mul}
use Rattle.field.specs.Field.{iterate, ones_power, inverse}
use Rattle.poly.specs.Poly.{eval}
use Rattle.field.specs.Lift.{lift}
use Rattle.field.specs.WideField.{WideField}
use Rattle.field.proofs.WideField.{wide_laws}

-- "modulo X^48 + X^5 + X^3 + X^2 + 1": the modulus without X^48
abbrev pub low48 : ℕ
low48 = 0x2d

-- undoes a -> a a + a, but for bit 0
table48 : List ℕ
table48 =
    211124532446448 ∷ 212667450671370 ∷ 212667450671368 ∷ 190918641033150 ∷ 212667450671372 ∷ 1577261258160
    ∷ 190918641033142 ∷ 7735407550308 ∷ 212667450671388 ∷ 223184046619128 ∷ 1577261258128 ∷ 112358627103566
    ∷ 190918641033206 ∷ 177286887544870 ∷ 7735407550436 ∷ 12675892341364 ∷ 212667450671132 ∷ 187651416064018
    ∷ 223184046619640 ∷ 188003971529718 ∷ 1577261257104 ∷ 105553118363662 ∷ 112358627105614 ∷ 223851544526876
    ∷ 190918641029110 ∷ 7036030995152 ∷ 177286887553062 ∷ 211125019014172 ∷ 7735407566820 ∷ 7104650065972
    ∷ 12675892374132 ∷ 217931471201308 ∷ 212667450736668 ∷ 105580331199098 ∷ 187651415932946 ∷ 15364543736436
    ∷ 223184046881784 ∷ 112527774415850 ∷ 188003972054006 ∷ 184250504424038 ∷ 1577260208528 ∷ 179848164190822
    ∷ 105553116266510 ∷ 0 ∷ 112358631299918 ∷ 25699813853904 ∷ 223851536138268 ∷ 41989887122240
    ∷ []

-- a product by long division
example48 : mul 48 low48 0x123456789abc 0xfedcba987654 ≡ 0xc4b090185804
unfolding xtime times combine orbit
example48 = refl

-- the smallest root
abbrev pub y48 : ℕ
y48 = 0x293ef1396c8c

others48 : List ℕ
others48 = 0x2a061bdf594f ∷ 0x978b70bac25c ∷ 0xba2c847d497d ∷ 0xc306e7e2bdac ∷ 0xc49d473c635c ∷ 0xc7a5adda569e ∷ 0xeea11325368c ∷ []

unfoldable pub powers48 : List ℕ
powers48 = 1 ∷ 45350311783564 ∷ 204700364130685 ∷ 50155470555071 ∷ 219514400298654 ∷ 202657554119817 ∷ 208594291365772 ∷ 44256213475364 ∷ []

pub wide48 : WideField 6 low48 y48 powers48
unfolding xtime times combine orbit basis iterate ones_power inverse lift eval table48 others48 powers48
wide48 =
    wide_laws 6 low48 y48 table48 others48 powers48
    (record { positive = refl; powers = refl; frobenius = refl; idempotents = refl; zero_zero = refl })
    (record { bits = tt; small = tt; one = tt; steps = refl; seven = refl; order = tt; roots = tt; root = refl; is_orbit = refl })
