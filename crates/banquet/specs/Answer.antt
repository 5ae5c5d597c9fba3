-- "What the lock turns down": answers with their numbers and places, refusals in order, and what a call leaves in the slices that it was lent.
use Rattle.std.specs.Prelude.{Result, Ok, Err, Bool, true, false, ◌&&◌, ◌||◌, List, [], ◌∷◌, ◌++◌, ℕ, zero, suc, eqb, leb, length, drop, replicate}
use Rattle.slices.specs.Lists.{choose}
use Rattle.banquet.specs.declared.Verdict.{Verdict}
use Rattle.banquet.specs.declared.Refusal.{Refusal}
use Rattle.banquet.specs.declared.Refusal.TheVariants.{
  KeyLength,
  PublicKeyLength,
  MessageLength,
  SaltLength,
  SeedLength,
  FileLength,
  WorkLength,
  ExecutionRange,
  HiddenPartyRange,
  SecondChallengeRange,
  ZeroInput,
  WrongKey,
  CommitmentDiffers,
  ShareDiffers,
  ProductDiffers,
  FirstHashDiffers,
  ThirdHashDiffers,
  TextForm,
}
use Rattle.banquet.specs.Shape.{work_length}

-- the answer of a call: accepted, or the refusal that applies first
abbrev pub Answer : Type 0
Answer = Result (Unit {0}) Refusal

abbrev pub accepted : Answer
accepted = Ok tt

abbrev pub verdict : ℕ → ℕ → Verdict
verdict number place = record { number = number; place = place }

-- The number and the place of each refusal: "Place is 0 unless named."
abbrev pub verdict_of_refusal : Refusal → Verdict
-- "The key isn't 16 bytes."
verdict_of_refusal KeyLength = verdict 1 0
-- "The public key isn't 32 bytes, or the plaintext for making one isn't 16."
verdict_of_refusal PublicKeyLength = verdict 2 0
-- "The message is over 32,768 bytes."
verdict_of_refusal MessageLength = verdict 3 0
-- "The salt isn't 32 bytes, or the ten given first draws aren't 40."
verdict_of_refusal SaltLength = verdict 4 0
-- "The root seeds aren't 656 bytes (sealing) or 16 (opening)."
verdict_of_refusal SeedLength = verdict 5 0
-- "An output slice is under 32, 19,776 or 2,554 bytes, or a seal or opening to be checked hasn't exactly its length."
verdict_of_refusal FileLength = verdict 6 0
-- "The work slice (all calls but public keys) is under 65,536 bytes."
verdict_of_refusal WorkLength = verdict 7 0
-- "An opening's execution is over 40, whether lent for opening or read in a check; 9 and 10 likewise."
verdict_of_refusal ExecutionRange = verdict 8 0
-- "Its hidden party is over 15."
verdict_of_refusal HiddenPartyRange = verdict 9 0
-- "Its second draw is below 20."
verdict_of_refusal SecondChallengeRange = verdict 10 0
-- "Some S-box input under the lent key is zero; place is the lowest S-box."
verdict_of_refusal (ZeroInput l) = verdict 11 l
-- "The key doesn't take the plaintext to the ciphertext."
verdict_of_refusal WrongKey = verdict 12 0
-- "In an opening a shown party's commitment differs from the recomputed one; place is the lowest party."
verdict_of_refusal (CommitmentDiffers i) = verdict 13 i
-- "In an opening a shown party's output, c, a or b share differs .. place is that party. Or, none differing, the output shares miss the ciphertext
-- (place 16)."
verdict_of_refusal (ShareDiffers i) = verdict 14 i
-- "c isn't the sum of a_j times b_j; place is the lowest such execution, an opening's own."
verdict_of_refusal (ProductDiffers e) = verdict 15 e
-- "The recomputed h1 differs."
verdict_of_refusal FirstHashDiffers = verdict 16 0
-- "The recomputed h3 differs."
verdict_of_refusal ThirdHashDiffers = verdict 17 0
-- "Card text breaks its form; place is the first bad line"
verdict_of_refusal (TextForm n) = verdict 18 n

-- the number and the place of each answer; 0 and 0 for accepted
abbrev pub verdict_of : Answer → Verdict
verdict_of (Ok _) = verdict 0 0
verdict_of (Err refusal) = verdict_of_refusal refusal

-- ---- "The first that applies is returned."

-- the refusal unless the test holds, and the rest if it does
unfoldable pub require : Bool → Refusal → Answer → Answer
require true refusal rest = rest
require false refusal rest = Err refusal

-- a test, and the refusal where it fails
abbrev pub Test : Type 0
Test = Bool × Refusal

-- the tests of a list one after the other, and the rest if all hold
abbrev pub in_order : List Test → Answer → Answer
in_order [] rest = rest
in_order (t ∷ tests) rest = require t.0 t.1 (in_order tests rest)

-- the same for the n numbers from i on: the lowest that fails names its refusal
unfoldable pub each : ℕ → ℕ → (ℕ → Bool) → (ℕ → Refusal) → Answer → Answer
each zero i test refusal rest = rest
each (suc n) i test refusal rest = require (test i) (refusal i) (each n (suc i) test refusal rest)

-- the numbers below n all pass the test
unfoldable pub all : ℕ → (ℕ → Bool) → Bool
all zero test = true
all (suc n) test = all n test && test n

-- ---- lent slices

-- "After 13 to 17, and on success, the work slice's first 65,536 bytes are zero and its rest untouched. Every other refusal .. leaves each lent slice
-- untouched"
abbrev pub clears : Verdict → Bool
clears v = eqb v.number 0 || (leb 13 v.number && leb v.number 17)

unfoldable pub cleared : List ℕ → List ℕ
cleared work = replicate work_length 0 ++ drop work_length work

unfoldable pub work_after : Answer → List ℕ → List ℕ
work_after answer work = choose (clears (verdict_of answer)) (cleared work) work

-- "Output beyond the stated length is untouched": on success it begins with the file that the call makes.
unfoldable pub output_after : Answer → List ℕ → List ℕ → List ℕ
output_after answer file output = choose (eqb (verdict_of answer).number 0) (file ++ drop (length file) output) output
