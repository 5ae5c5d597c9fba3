-- All that the rows compute with, under one name for their `unfolding` lines.
use Rattle.slices.specs.Lists.{put, zip_xor, sum_xor, same}
use Rattle.slices.specs.Numbers.{number, bytes_of}
use Rattle.slices.specs.Layout.{field, layout}
use Rattle.field.specs.Linear.{combine, orbit}
use Rattle.field.specs.Ring.{xtime, times}
use Rattle.field.specs.Field.{iterate, inverse, ones_power}
use Rattle.field.specs.Lift.{lift}
use Rattle.poly.specs.Index.{at}
use Rattle.poly.specs.Sum.{sum}
use Rattle.poly.specs.Poly.{eval}
use Rattle.poly.specs.Lagrange.{basis_poly, interpolate}
use Rattle.aes.specs.Aes.{first_zero}
use Rattle.banquet.specs.Hash.{
  evaluation_point,
  party_of,
  commitment,
  first_hash,
  second_hash,
  third_hash,
  tape,
  children,
  first_challenge,
  second_challenge,
  hidden_party,
}
use Rattle.banquet.specs.Tree.{leaves, siblings, shown_leaves}
use Rattle.banquet.specs.Execution.{tape_part, input_shares, output_share, input_at, inverse_at, product_at, opened_c, opened_a, opened_b}
use Rattle.banquet.specs.Signer.{product_offset_at, product_offsets}
use Rattle.banquet.specs.Answer.{require, each, all, cleared, work_after, output_after}
use Rattle.banquet.specs.Key.{public_key_of, check_inputs, check_key}
use Rattle.banquet.specs.Opening.{commitment_holds, shares_hold, check_shares, check_parties, check_opening, transcript, opening}
use Rattle.banquet.specs.Signature.{
  h1_part,
  h3_part,
  signer_h1_part,
  signer_h1,
  frame_of,
  frame_holds,
  completed,
  completed_output,
  frame_h1_part,
  frame_h3_part,
  check_signature,
}
use Rattle.banquet.specs.Calls.{public_key_answer, sign_answer, verify_answer, open_answer, verify_opening_answer}
use Rattle.banquet.specs.Card.{
  symbol_of,
  is_digit,
  value_of,
  all_digits,
  decoded,
  digit_of,
  encoded,
  line_of,
  decoded_line,
  decoded_lines,
  encoded_lines,
  has_size,
  is_line,
  check_lines,
  verify_card_answer,
  card_text,
  decimal_in,
  refusal_line,
  printed,
}
use Rattle.toy.specs.Toy.{absorbed, squeezed, toy_hash, toy_inputs, toy_encrypt, toy_input_shares, toy_output_share}
use Rattle.toy.specs.Shared.{shared}

unfoldable lists : Unit {0}
unfolding put zip_xor sum_xor same number bytes_of field layout
lists = tt

unfoldable fields : Unit {0}
unfolding combine orbit xtime times iterate inverse ones_power lift at sum eval basis_poly interpolate
fields = tt

unfoldable toys : Unit {0}
unfolding absorbed squeezed toy_hash toy_inputs toy_encrypt toy_input_shares toy_output_share shared
toys = tt

unfoldable hashes : Unit {0}
unfolding commitment first_hash second_hash third_hash tape children first_challenge second_challenge hidden_party evaluation_point party_of
hashes = tt

unfoldable offsets : Unit {0}
unfolding product_offset_at product_offsets
offsets = tt

unfoldable parties : Unit {0}
unfolding leaves siblings shown_leaves tape_part input_shares output_share input_at inverse_at product_at opened_c opened_a opened_b offsets
parties = tt

unfoldable made : Unit {0}
unfolding transcript opening h1_part h3_part signer_h1_part signer_h1
made = tt

unfoldable checks : Unit {0}
unfolding commitment_holds shares_hold check_shares check_parties check_opening frame_of frame_holds completed completed_output frame_h1_part frame_h3_part check_signature
checks = tt

unfoldable answers : Unit {0}
unfolding require each all cleared work_after output_after public_key_answer sign_answer verify_answer open_answer verify_opening_answer
answers = tt

unfoldable keys : Unit {0}
unfolding first_zero public_key_of check_inputs check_key
keys = tt

unfoldable cards : Unit {0}
unfolding symbol_of is_digit value_of all_digits decoded digit_of encoded line_of decoded_line decoded_lines encoded_lines has_size is_line check_lines
cards = tt

unfoldable card_texts : Unit {0}
unfolding cards verify_card_answer card_text decimal_in refusal_line printed
card_texts = tt

unfoldable pub everything : Unit {0}
unfolding lists fields toys hashes parties made checks answers keys card_texts
everything = tt
