-- The parts of a public key: how long they are. Assumes nothing.
use Rattle.std.specs.Prelude.{◌≡◌, List, ℕ, length}
use Rattle.std.proofs.Common.{ap, ◌∙◌, arith, length-drop, length-take-le}
use Rattle.banquet.specs.declared.Shape.{Shape}
use Rattle.banquet.specs.Shape.{public_key_length}
use Rattle.banquet.specs.Sets.{scheme_of}
use Rattle.banquet.specs.Key.{front_of, ciphertext_of}

module _ (S : Shape) (public_key : List ℕ) (h : length public_key ≡ public_key_length S) where
  pub front_long : {f : List ℕ} → f ≡ front_of (scheme_of S) public_key → length f ≡ S.front
  front_long is = ap length is ∙ length-take-le S.front public_key (omega arith)

  pub ciphertext_long : {c : List ℕ} → c ≡ ciphertext_of (scheme_of S) public_key → length c ≡ 16
  ciphertext_long is = ap length is ∙ length-drop S.front public_key ∙ omega arith
