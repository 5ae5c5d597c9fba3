-- A request in form whose bytes have been read: where its parts lie, and what they are. Assumes nothing.
use Rattle.std.specs.Prelude.{◌≡◌, List, ◌++◌, ℕ, ◌+◌, ◌-◌, ◌/◌, ◌≤◌, length, take, drop}
use Rattle.std.proofs.Common.{sym, ap, ◌∙◌, arith, length-append}
use Rattle.banquet.specs.Shape.{message_limit, public_key_length, root_seeds_length}
use Rattle.banquet.specs.Scheme.{Scheme}
use Rattle.banquet.specs.Answer.{Answer, accepted, output_after}
use Rattle.banquet.specs.Card.{decoded_line, decoded_lines}
use Rattle.requests.specs.Reading.{
  form,
  whole_long,
  text_long,
  message_long,
  key_part,
  public_part,
  message_part,
  salt_part,
  seeds_part,
}

-- `request` has what its text stands for
pub record Read (𝓢 : Scheme) (text request : List ℕ) : Type 0 where
  pub in_form : form 𝓢 text ≡ accepted
  pub behind : List ℕ
  pub bytes : request ≡ decoded_lines 5 text ++ behind

-- as `read_lines` tells it
pub read : (𝓢 : Scheme) (text request d : List ℕ) {a : Answer} → a ≡ form 𝓢 text → request ≡ output_after a (decoded_lines 5 text) d → a ≡ accepted
    → Read 𝓢 text request
unfolding output_after
read 𝓢 text request d {a} e b good = record {
  in_form = sym e ∙ good;
  behind = drop (length (decoded_lines 5 text)) d;
  bytes = b ∙ ap (λ (x : Answer). output_after x (decoded_lines 5 text) d) good;
}

-- these lists are what the five lines stand for
pub record Parts (text key public_key message salt seeds : List ℕ) : Type 0 where
  pub key_is : key ≡ decoded_line 1 text
  pub public_is : public_key ≡ decoded_line 2 text
  pub message_is : message ≡ decoded_line 3 text
  pub salt_is : salt ≡ decoded_line 4 text
  pub seeds_is : seeds ≡ decoded_line 5 text

-- where the root seeds end
abbrev pub end_of : List ℕ → ℕ
end_of text = (length text - 5) / 2

-- where the parts of a request lie: public key, message, salt and root seeds begin at 16, start, salt and seeds
pub record Within (text request : List ℕ) (start salt seeds : ℕ) : Type 0 where
  pub public_first : 16 ≤ start
  pub message_first : start ≤ salt
  pub message_most : salt - start ≤ message_limit
  pub salt_first : salt ≤ seeds
  pub seeds_first : seeds ≤ end_of text
  pub most : end_of text ≤ length request

module _ {𝓢 : Scheme} {text request : List ℕ} (k : Read 𝓢 text request) where
  -- where they begin by where they end
  pub lines_within : 5 ≤ length text
  lines_within = omega (arith, text_long 𝓢 text k.in_form)

  end_is : end_of text ≡ 16 + public_key_length 𝓢.shape + length (decoded_line 3 text) + 32 + root_seeds_length 𝓢.shape
  end_is = omega (arith, text_long 𝓢 text k.in_form)

  pub seeds_within : root_seeds_length 𝓢.shape + 32 ≤ end_of text
  seeds_within = omega (arith, end_is)

  module _ {start salt seeds : ℕ} (first : start ≡ 16 + public_key_length 𝓢.shape) (next : seeds ≡ end_of text - root_seeds_length 𝓢.shape)
      (at : salt ≡ seeds - 32) where
    salt_is : salt ≡ start + length (decoded_line 3 text)
    salt_is = omega (arith, end_is, first, next, at)

    seeds_is : seeds ≡ salt + 32
    seeds_is = omega (arith, end_is, next, at)

    end_after : end_of text ≡ seeds + root_seeds_length 𝓢.shape
    end_after = omega (arith, end_is, next)

    pub within : Within text request start salt seeds
    within =
        let long : length request ≡ end_of text + length k.behind =
        ap length k.bytes ∙ length-append (decoded_lines 5 text) k.behind ∙ omega (arith, whole_long 𝓢 text k.in_form, end_is) in
        record {
          public_first = omega (arith, first);
          message_first = omega (arith, salt_is);
          message_most = omega (arith, salt_is, message_long 𝓢 text k.in_form);
          salt_first = omega (arith, seeds_is);
          seeds_first = omega (arith, end_after);
          most = omega (arith, long);
        }

    pub parts : Parts text (take 16 request) (take (start - 16) (drop 16 request)) (take (salt - start) (drop start request))
        (take (seeds - salt) (drop salt request)) (take (end_of text - seeds) (drop seeds request))
    parts =
        let h = k.in_form in
        let end = end_of text in
        record {
          key_is = key_part 𝓢 text h request k.behind k.bytes start salt seeds end first salt_is seeds_is end_after;
          public_is = public_part 𝓢 text h request k.behind k.bytes start salt seeds end first salt_is seeds_is end_after;
          message_is = message_part 𝓢 text h request k.behind k.bytes start salt seeds end first salt_is seeds_is end_after;
          salt_is = salt_part 𝓢 text h request k.behind k.bytes start salt seeds end first salt_is seeds_is end_after;
          seeds_is = seeds_part 𝓢 text h request k.behind k.bytes start salt seeds end first salt_is seeds_is end_after;
        }
