-- What a plan says: the record's refusal, or all that writing its file needs.
use mathlib.Core.Path.{◌≡◌, sym, ap, ◌∙◌}
use mathlib.Core.Bool.{true, ◌||◌}
use mathlib.Core.List.{List}
use Prim.Native.Nat.{ℕ, ◌≤◌, ◌<◌}
use native.Mathlib.Omega.{arith}
use lib.Dec.{leb}
use lib.ListN.{length, get_or}
use borrow.Author.Tests.{le-leb, lt-leb}
use Rattle.bpg_codec.specs.Outcome.{ok, error, ◌>>=◌, guard}
use Rattle.bpg_write_bits.specs.declared.BitBuffer.{BitBuffer}
use Rattle.bpg_format.specs.Limits.{max_file}
use Rattle.bpg_format.specs.declared.record.Record.{Record}
use Rattle.bpg_format.specs.Zero.{zero_header}
use Rattle.bpg_format.specs.Syntax.{file_of}
use Rattle.bpg_format.specs.Records.{used_entries, content_of}
use Rattle.bpg_format.specs.Write.{check_record, sized_file, write_outcome}
use Rattle.bpg_format.proofs.Writing.{write-checks}
use Rattle.bpg_write_plan.specs.declared.layout.Layout.{Layout}
use Rattle.bpg_write_plan.specs.Layouts.{layout_of}
use Rattle.bpg_write_plan.specs.FileParts.{Encoded, file_part}
use Rattle.bpg_write_plan.specs.Plans.{Ready}
use Rattle.bpg_write_plan.proofs.JudgedLaws.{Judged, judged}
use Rattle.bpg_write_plan.proofs.SizeLaws.{entries-measured, file-is, total-measured, block_inside}

module _ (r : Record) (source : List ℕ) where
  abbrev file : List ℕ
  file = file_of (content_of r source)

  -- what the judging refuses, writing refuses
  pub judged-out : (n : ℕ) → error n 0 ≡ check_record r source → (capacity : ℕ) → write_outcome capacity r source ≡ error n 0
  judged-out n e capacity = write-checks capacity r source ∙ rw (← e)

  module _ (e : ok tt ≡ check_record r source) where
    pub record-known : Judged r source
    record-known = judged r source (sym e)

    sized : (capacity : ℕ) → write_outcome capacity r source ≡ sized_file capacity (content_of r source)
    sized capacity = write-checks capacity r source ∙ rw (← e)

    too_long : max_file < length file → (capacity : ℕ) → write_outcome capacity r source ≡ error 1 0
    unfolding sized_file
    too_long h capacity = sized capacity ∙ rw (lt-leb (length file) max_file h)

    only-small : length file ≤ max_file → (capacity : ℕ) → write_outcome capacity r source ≡ (guard (leb (length file) capacity) 20 0 >>= λ _. ok file)
    unfolding sized_file
    only-small h capacity = sized capacity ∙ rw (le-leb (length file) max_file h)

    -- the plan of a record that passed the judging
    module _ (a c : BitBuffer) (l : Layout) (measured : l ≡ layout_of r a.len.0 c.len.0)
        (ea : Encoded (r.alpha1_flag || r.alpha2_flag) (get_or r.headers 0 zero_header) a) (ec : Encoded true (get_or r.headers 1 zero_header) c) where
      abbrev known : Judged r source
      known = record-known

      total-is : l.total ≡ length file
      total-is = ap (λ (x : Layout). x.total) measured ∙ total-measured r source known a c ea ec

      pub longer : max_file < l.total → (capacity : ℕ) → write_outcome capacity r source ≡ error 1 0
      longer h = too_long (omega (arith, h, total-is))

      pub ready : (bits-a : a.len.0 ≤ 65) (bits-c : c.len.0 ≤ 65) → l.total ≤ max_file → Ready r source (record { layout = l; alpha = a; color = c })
      ready bits-a bits-c h =
          let j = known in
          let block = ap (λ (x : Layout). x.block) measured in
          record {
            only-small = only-small (omega (arith, h, total-is));
            format = j.format;
            depth = j.depth;
            space = j.space;
            few = j.few;
            payloads = j.payloads;
            data-inside = j.data-inside;
            alpha-bits = bits-a;
            color-bits = bits-c;
            block-is = block ∙ sym (entries-measured source (used_entries r) j.payloads);
            parts_are = ap (λ (x : Layout). file_part r source x.headers_and_data a c) measured ∙ file-is r source j a c ea ec;
            total-is = total-is;
            parts-most = (
              omega (arith, h, total-is, block, block_inside r source j a c ea ec),
              omega (arith, h, ap (λ (x : Layout). x.headers_and_data) measured, ap (λ (x : Layout). x.total) measured),
            );
            total-most = h;
          }
