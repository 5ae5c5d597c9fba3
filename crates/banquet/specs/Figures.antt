-- The figures of a parameter set of which its theorems speak. They follow from its shape: a set shows its own by one equation.
use Rattle.std.specs.Prelude.{ℕ, ◌*◌}
use Rattle.slices.specs.Layout.{total}
use Rattle.banquet.specs.declared.Shape.{Shape}
use Rattle.banquet.specs.Shape.{
  public_key_length,
  first_challenge_length,
  root_seeds_length,
  tape_sizes,
  frame_sizes,
  signature_length,
  transcript_sizes,
  opening_length,
}

pub record Figures : Type 0 where
  pub parties : ℕ
  pub executions : ℕ
  -- m1: how many first draws r an execution has; m2: how many rows; how many roots the check polynomial has at most
  pub columns : ℕ
  pub rows : ℕ
  pub roots : ℕ
  -- of a wide element
  pub bits : ℕ
  -- in bytes: what stands before the ciphertext in a public key; a public key; the first draws of an execution; the root seeds of a signature; a
  -- tape; a frame; a signature; what stands before the hidden party in an opening; an opening
  pub front : ℕ
  pub public_key : ℕ
  pub first_challenge : ℕ
  pub root_seeds : ℕ
  pub tape : ℕ
  pub frame : ℕ
  pub signature : ℕ
  pub transcript : ℕ
  pub opening : ℕ

abbrev pub figures_of : Shape → Figures
figures_of S = record {
  parties = S.parties;
  executions = S.executions;
  columns = S.m1;
  rows = S.m2;
  roots = 2 * S.m2;
  bits = 8 * S.wide;
  front = S.front;
  public_key = public_key_length S;
  first_challenge = first_challenge_length S;
  root_seeds = root_seeds_length S;
  tape = total (tape_sizes S);
  frame = total (frame_sizes S);
  signature = signature_length S;
  transcript = total (transcript_sizes S);
  opening = opening_length S;
}
