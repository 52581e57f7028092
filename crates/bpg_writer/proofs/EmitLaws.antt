-- The three parts of a planned file, one after the other into a buffer that holds it.
use mathlib.Core.Path.{◌≡◌, ap, ◌∙◌}
use mathlib.Core.Bool.{Bool, true, false, ◌||◌}
use mathlib.Core.List.{List, ◌++◌}
use Prim.Native.Nat.{ℕ, ◌+◌, ◌≤◌}
use native.Mathlib.Omega.{arith}
use lib.ListN.{length, length-append}
use Rattle.bpg_codec.specs.Select.{select}
use Rattle.bpg_codec.specs.Buffer.{written}
use Rattle.bpg_format.specs.Limits.{max_file}
use Rattle.bpg_format.specs.declared.record.Record.{Record}
use Rattle.bpg_format.specs.Syntax.{file_of}
use Rattle.bpg_format.specs.Records.{content_of}
use Rattle.bpg_write_plan.specs.declared.plan.Plan.{Plan}
use Rattle.bpg_write_plan.specs.Plans.{Ready}
use Rattle.bpg_write_plan.specs.FileParts.{head_part, block_part, headers_and_data_part}
use Rattle.bpg_writer.proofs.PutLaws.{Put, put-end, put_same, put_then}

module _ (r : Record) (source : List ℕ) (p : Plan) (k : Ready r source p) (out : List ℕ) (room : length (file_of (content_of r source)) ≤ length out) where
  abbrev coded : ℕ
  coded = select r.explicit_length p.layout.headers_and_data 0

  abbrev block : List ℕ
  block = block_part r source

  abbrev last_of : Bool → List ℕ
  last_of plane = headers_and_data_part plane p.alpha p.color source r.«data»

  abbrev last : List ℕ
  last = last_of (r.alpha1_flag || r.alpha2_flag)

  fits : length (head_part r coded) + (length block + length last) ≤ length out
  fits = omega (arith, room, ap length k.parts_are, length-append (head_part r coded) (block ++ last), length-append block last)

  -- the data length is one of a file
  pub coded-small : (n : ℕ) → n ≡ coded → n ≤ max_file
  unfolding select
  coded-small n e = omega (arith, e, small r.explicit_length)
    where
      small : (t : Bool) → select t p.layout.headers_and_data 0 ≤ max_file
      small true = k.parts-most.1
      small false = omega arith

  module _ (n : ℕ) (e : n ≡ coded) where
    pub head-fits : length (head_part r n) ≤ length out
    head-fits = omega (arith, fits, ap (λ (m : ℕ). length (head_part r m)) e)

    module _ {o1 : List ℕ} {p1 : ℕ} (head-put : Put out 0 (head_part r n) o1 p1) where
      pub block-fits : p1 + length block ≤ length o1
      block-fits =
          let f = put-end out 0 (head_part r n) (omega (arith, head-fits)) head-put in
          omega (arith, fits, f.0, f.1, ap (λ (m : ℕ). length (head_part r m)) e)

      module _ {o2 : List ℕ} {p2 : ℕ} (block-put : Put o1 p1 block o2 p2) (plane : Bool) (is : plane ≡ (r.alpha1_flag || r.alpha2_flag)) where
        pub last-fits : p2 + length (last_of plane) ≤ length o2
        last-fits =
            let f = put-end out 0 (head_part r n) (omega (arith, head-fits)) head-put in
            let g = put-end o1 p1 block block-fits block-put in
            omega (arith, fits, f.0, f.1, g.0, g.1, ap (λ (m : ℕ). length (head_part r m)) e, ap (λ (t : Bool). length (last_of t)) is)

        pub all-written : {o3 : List ℕ} {p3 : ℕ} → Put o2 p2 (last_of plane) o3 p3 → o3 ≡ written out 0 (file_of (content_of r source))
        all-written last-put =
            let all : 0 + length (head_part r coded ++ (block ++ last)) ≤ length out = omega (arith, fits, length-append (head_part r coded) (block ++ last), length-append block last) in
            let put =
            put_then out 0 (head_part r coded) (block ++ last) all (put_same out 0 (ap (head_part r) e) head-put) λ f.
            put_then o1 p1 block last f block-put λ _. put_same o2 p2 (ap last_of is) last-put in
            put.0 ∙ ap (written out 0) k.parts_are
