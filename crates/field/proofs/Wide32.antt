-- Laws of specs/Wide32, which stand here so that an edit of what they rest on is refused by a fact. Assumes nothing.
use Rattle.std.specs.Prelude.{refl, List, [], ◌∷◌, ℕ}
use Rattle.field.specs.Linear.{combine, orbit, basis}
use Rattle.field.specs.Ring.{xtime, times}
use Rattle.field.specs.Field.{iterate, ones_power, inverse}
use Rattle.poly.specs.Poly.{eval}
use Rattle.field.specs.Lift.{lift}
use Rattle.field.specs.WideField.{WideField}
use Rattle.field.proofs.WideField.{wide_laws}
use Rattle.field.specs.Wide32.{low32, y32, powers32}

-- undoes a -> a a + a, but for bit 0
table32 : List ℕ
table32 =
    1425871460 ∷ 3262106980 ∷ 3262106982 ∷ 596276322 ∷ 3262106978 ∷ 2537278634 ∷ 596276330 ∷ 2004248338
    ∷ 3262106994 ∷ 3250443606 ∷ 2537278602 ∷ 1462372684 ∷ 596276266 ∷ 3063135876 ∷ 2004248466 ∷ 2505424958
    ∷ 3262106738 ∷ 1451497976 ∷ 3250444118 ∷ 2529415882 ∷ 2537277578 ∷ 1418076124 ∷ 1462370636 ∷ 3080433092
    ∷ 596272170 ∷ 0 ∷ 3063127684 ∷ 3306814086 ∷ 2004232082 ∷ 3115950048 ∷ 2505392190 ∷ 930490298
    ∷ []

others32 : List ℕ
others32 = 0x621de75d ∷ 0x9c8bad52 ∷ 0xa2e260ca ∷ 0xb221b23e ∷ 0xbe3220f4 ∷ 0xc4652dfc ∷ 0xd4a6ff09 ∷ []

pub wide32 : WideField 4 low32 y32 powers32
unfolding xtime times combine orbit basis iterate ones_power inverse lift eval table32 others32 powers32
wide32 =
    wide_laws 4 low32 y32 table32 others32 powers32
    (record { positive = refl; powers = refl; frobenius = refl; idempotents = refl; zero_zero = refl })
    (record { bits = tt; small = tt; one = tt; steps = refl; seven = refl; order = tt; roots = tt; root = refl; is_orbit = refl })
