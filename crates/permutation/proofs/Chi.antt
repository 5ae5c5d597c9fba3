-- Chi on a plane that comes and goes with its masks, by a test on bits. Assumes nothing.
use mathlib.Core.Path.{◌≡◌, sym, ap, ◌∙◌}
use mathlib.Core.List.{List, []}
use Prim.Native.Nat.{ℕ, zero, suc, ◌+◌, ◌%◌, ◌^◌, ◌<◌}
use lib.ListN.{get_or}
use Rattle.slices.specs.Lists.{tab, row}
use Rattle.slices.specs.Tab.{tab_cong, get_d_tab}
use Rattle.permutation.specs.State.{mask, chi_mask}
use Rattle.permutation.proofs.Bitwise.{Expr, none, var, neg, and, xor, eval, table, five, agree}

-- the expression e with a lane of a mask added, which is 0 or all bits
abbrev under : ℕ → Expr → Expr
under zero e = xor e none
under (suc m) e = xor e (neg none)

-- lane x of the variables, as plane y comes to chi
abbrev given : ℕ → ℕ → Expr
given y x = under (get_or (row 5 y chi_mask) x 0) (var x)

-- lane x of chi of that plane
abbrev wanted : ℕ → ℕ → Expr
wanted y x = xor (given y x) (and (neg (given y ((x + 1) % 5))) (given y ((x + 2) % 5)))

-- lane x of the plane p, as plane y goes
abbrev made : ℕ → List Expr → ℕ → Expr
made y p x = under (get_or (row 5 y mask) x 0) (get_or p x none)

pub chi_masked : (y : ℕ) (p : List Expr) → tab (λ x. table (made y p x)) 5 ≡ tab (λ x. table (wanted y x)) 5
    → (a e i o u : ℕ) → a < 2 ^ 64 → e < 2 ^ 64 → i < 2 ^ 64 → o < 2 ^ 64 → u < 2 ^ 64
    → tab (λ x. eval 64 (made y p x) (five a e i o u)) 5 ≡ tab (λ x. eval 64 (wanted y x) (five a e i o u)) 5
chi_masked y p t a e i o u ha he hi ho hu = tab_cong 5 (λ x l. agree (made y p x) (wanted y x) (lane x l) a e i o u ha he hi ho hu)
  where
    lane : (x : ℕ) → x < 5 → table (made y p x) ≡ table (wanted y x)
    lane x l =
        sym (get_d_tab (λ x. table (made y p x)) 5 x [] l) ∙ ap (λ s. get_or s x []) t ∙ get_d_tab (λ x. table (wanted y x)) 5 x [] l

-- the variables of a plane
abbrev pub A : Expr
A = var 0

abbrev pub E : Expr
E = var 1

abbrev pub I : Expr
I = var 2

abbrev pub O : Expr
O = var 3

abbrev pub U : Expr
U = var 4
