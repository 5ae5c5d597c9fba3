-- Document 01's own set: its figures, and of it all that is stated. SHAKE128 and AES-128 stand where the statements have any hash and any circuit.
-- Each statement is written out, with these figures by their names, in the file from which it comes. Assumes nothing.
use Rattle.std.specs.Prelude.{◌≡◌, refl, List, [], ◌∷◌, ◌++◌, ℕ}
use Rattle.field.specs.Wide32.{low32}
use Rattle.field.specs.Wide.{ops}
use Rattle.aes.specs.Aes as aes
use Rattle.banquet.specs.Shape.{message_limit, work_length}
use Rattle.banquet.specs.Scheme.{GoodKey, wide_ops}
use Rattle.banquet.specs.Card.{refused_word, card_output}
use Rattle.banquet.specs.Sets.{base_scheme, base_figures, base_figures_lem}
use Rattle.banquet.specs.OpeningChecks as openings
use Rattle.banquet.specs.SignatureChecks as signatures
use Rattle.banquet.proofs.OpeningChecks as opening_laws
use Rattle.banquet.proofs.SignatureChecks as signature_laws
use Rattle.theorems.specs.Sets.{base_laws}
use Rattle.theorems.specs.Demand3.{Demand3}
use Rattle.theorems.proofs.Soundness as soundness
use Rattle.theorems.specs.Complete as complete
use Rattle.theorems.specs.EmptyCard as cards

-- The figures are those of `banquet/Sets.base_figures`: 16 parties, 41 executions, ten first draws, twenty rows, at most 40 roots, a public key of 32
-- bytes, a signature of 19,776 and an opening of 2,554. The same in every set: "The message is over 32,768 bytes."; "The work slice .. is under 65,536 bytes."
pub message_limit_lem : message_limit ≡ 32768
message_limit_lem = refl

pub work_length_lem : work_length ≡ 65536
work_length_lem = refl

-- good keys are AES-128's, and wide elements are counted "modulo X^32 + X^7 + X^3 + X^2 + 1"
pub good_key : (plaintext ciphertext key : List ℕ) → GoodKey base_scheme plaintext ciphertext key ≡ aes.GoodKey plaintext ciphertext key
good_key plaintext ciphertext key = refl

pub wide_field : wide_ops base_scheme ≡ ops 32 low32
wide_field = refl

-- ---- demand 3

pub demand_3 : Demand3 base_scheme base_figures
demand_3 = soundness.demand_3 base_scheme base_laws base_figures_lem

-- ---- an opening, and a signature, is accepted exactly where every check holds; a message over the limit, and a
-- signature that was cut short or lengthened, are refused

pub opening_checked_lem : openings.OpeningChecked base_scheme base_figures
opening_checked_lem = opening_laws.opening_checked_lem base_scheme base_figures_lem

pub signature_checked_lem : signatures.SignatureChecked base_scheme base_figures
signature_checked_lem = signature_laws.signature_checked_lem base_scheme base_figures_lem

pub message_refused : signatures.MessageRefused base_scheme base_figures
message_refused = signature_laws.message_refused base_scheme base_figures_lem

pub message_not_signed : signatures.MessageNotSigned base_scheme base_figures
message_not_signed = signature_laws.message_not_signed base_scheme base_figures_lem

pub length_refused : signatures.LengthRefused base_scheme base_figures
length_refused = signature_laws.length_refused base_scheme base_figures_lem

-- ---- keys, openings and signatures that are made

pub made_key_good : complete.MadeKeyGood base_scheme base_figures
made_key_good = complete.made_key_good base_scheme base_laws base_figures_lem

pub good_key_opens : complete.GoodKeyOpens base_scheme base_figures
good_key_opens = complete.good_key_opens base_scheme base_laws base_figures_lem

pub opens_good_key : complete.OpensGoodKey base_scheme base_figures
opens_good_key = complete.opens_good_key base_scheme base_laws base_figures_lem

pub opened_accepted : complete.OpenedAccepted base_scheme base_figures
opened_accepted = complete.opened_accepted base_scheme base_laws base_figures_lem

pub good_key_signs : complete.GoodKeySigns base_scheme base_figures
good_key_signs = complete.good_key_signs base_scheme base_laws base_figures_lem

pub signs_good_key : complete.SignsGoodKey base_scheme base_figures
signs_good_key = complete.signs_good_key base_scheme base_laws base_figures_lem

pub signed_accepted : complete.SignedAccepted base_scheme base_figures
signed_accepted = complete.signed_accepted base_scheme base_laws base_figures_lem

-- ---- "Empty input prints the whole output `refused 18 1`", with a line end

pub empty_card : card_output base_scheme [] ≡ refused_word ++ (0x20 ∷ 0x31 ∷ 0x38 ∷ 0x20 ∷ 0x31 ∷ 0x0a ∷ [])
empty_card = cards.empty_card base_scheme
