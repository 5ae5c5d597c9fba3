-- The weights in the field of 32 bits. Assumes nothing.
use Rattle.std.specs.Prelude.{List, [], ◌∷◌, ℕ}
use Rattle.poly.specs.Index.{at}
use Rattle.field.specs.Linear.{combine, orbit}
use Rattle.field.specs.Ring.{xtime, times}
use Rattle.field.specs.Wide32.{low32}
use Rattle.field.proofs.Wide32.{wide32}
use Rattle.weights.specs.Weights.{Weights, product, right, all, weighed}

unfoldable pub weights32x21 : List ℕ
weights32x21 =
    2991171737 ∷ 2468459734 ∷ 3506045523 ∷ 212800571 ∷ 3515103469 ∷ 4267841898 ∷ 1524613308 ∷ 2282023708
    ∷ 2798704430 ∷ 1462048435 ∷ 3757413554 ∷ 3082253944 ∷ 3255823475 ∷ 1716053899 ∷ 1989392227 ∷ 1264820172
    ∷ 3245188521 ∷ 4275796852 ∷ 2176239310 ∷ 3666489699 ∷ 1686776176 ∷ []

pub weights32x21_right : Weights 32 low32 21 weights32x21
unfolding xtime times combine orbit at product right all weights32x21
weights32x21_right = weighed 32 low32 21 weights32x21 wide32.binary tt

unfoldable pub weights32x41 : List ℕ
weights32x41 =
    2734028328 ∷ 389991967 ∷ 4016518589 ∷ 554988476 ∷ 662291279 ∷ 4250808330 ∷ 634914918 ∷ 3167303872
    ∷ 1790272774 ∷ 1345635075 ∷ 2981076129 ∷ 3948549291 ∷ 1122527253 ∷ 3783794754 ∷ 2443148546 ∷ 1778755215
    ∷ 1991392627 ∷ 1867139234 ∷ 872711779 ∷ 2113062203 ∷ 3859036419 ∷ 1517932415 ∷ 2773355235 ∷ 3955972044
    ∷ 2511893512 ∷ 1453270436 ∷ 4279856993 ∷ 2372836829 ∷ 2979662433 ∷ 603514597 ∷ 2710134757 ∷ 541953451
    ∷ 3212324980 ∷ 1438660315 ∷ 3428859833 ∷ 1177738425 ∷ 709894179 ∷ 1482497318 ∷ 4280298992 ∷ 2009060693
    ∷ 2591563791 ∷ []

pub weights32x41_right : Weights 32 low32 41 weights32x41
unfolding xtime times combine orbit at product right all weights32x41
weights32x41_right = weighed 32 low32 41 weights32x41 wide32.binary tt
