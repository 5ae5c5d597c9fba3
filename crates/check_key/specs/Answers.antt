-- A call whose last tests are those of the key: refused as 11 or 12 it leaves output and work slice as they are. Assumes nothing.
use Rattle.std.specs.Prelude.{◌≡◌, Err, IsErrAnd, List, [], ◌∷◌, ℕ, eqb}
use Rattle.std.proofs.Math.Path.{refl, ap, ap₂}
use Rattle.std.proofs.Common.{sym, ◌∙◌}
use Rattle.slices.specs.Lists.{same}
use Rattle.banquet.specs.declared.Refusal.{Refusal}
use Rattle.banquet.specs.declared.Refusal.TheVariants.{ZeroInput, WrongKey}
use Rattle.banquet.specs.Shape.{sboxes}
use Rattle.banquet.specs.Scheme.{Scheme}
use Rattle.banquet.specs.Answer.{Answer, accepted, cleared, work_after, output_after}
use Rattle.banquet.specs.Key.{front_of, ciphertext_of, zero_input, check_inputs, check_key}
use Rattle.banquet.specs.Calls.{made, made_after}
use Rattle.verdict.specs.Tests.{made_refused}

module _ (𝓢 : Scheme) (public_key key : List ℕ) {a : Answer} (is : a ≡ check_key 𝓢 public_key key accepted) (file output work : List ℕ) where
  pub key_refused : {refusal : Refusal} → a ≡ Err refusal → {r : Answer} → IsErrAnd r (λ e. e ≡ refusal)
      → made r output work ≡ made_after (check_key 𝓢 public_key key accepted) file output work
  unfolding check_key check_inputs
  key_refused h up =
      let f = front_of 𝓢 public_key in
      made_refused
      ((eqb (zero_input 𝓢 f key) (sboxes 𝓢.shape), ZeroInput (zero_input 𝓢 f key))
      ∷ (same (𝓢.circuit.encrypt f key) (ciphertext_of 𝓢 public_key), WrongKey) ∷ [])
      refl is h up accepted file output work

  pub key_accepted : a ≡ accepted → {o w : List ℕ} → o ≡ output_after accepted file output → w ≡ cleared work
      → made accepted o w ≡ made_after (check_key 𝓢 public_key key accepted) file output work
  unfolding work_after
  key_accepted h p q = ap₂ (made accepted) p q ∙ ap (λ (a : Answer). made_after a file output work) (sym h ∙ is)
