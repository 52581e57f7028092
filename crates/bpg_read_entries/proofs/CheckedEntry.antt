-- One entry of any region, at any offset; and of what the syntax gives for it.
use mathlib.Core.Path.{◌≡◌, ◌∙◌}
use mathlib.Core.List.{List, ◌++◌, append_assoc}
use Prim.Native.Nat.{ℕ, ◌+◌, ◌^◌, ◌≤◌, ◌<◌}
use native.Mathlib.Omega.{arith}
use lib.ListN.{length, drop, length-append, drop_of_length-le}
use borrow.Author.Tests.{le-leb, lt-leb}
use Rattle.bpg_codec.specs.Outcome.{ok, error, decoded}
use Rattle.bpg_ue7.specs.Ue7.{ue7_bytes}
use Rattle.bpg_ue7.proofs.Ue7Laws.{decode-end, ue7-lawful}
use Rattle.bpg_format.specs.Limits.{max_file}
use Rattle.bpg_format.specs.Content.{Extension}
use Rattle.bpg_format.specs.Syntax.{extension_bytes}
use Rattle.bpg_read_entries.specs.Entries.{entry_start, entry_in}

module _ (region : List ℕ) (p : ℕ) where
  pub too_long : max_file < length region → entry_in region p ≡ error 1 0
  unfolding entry_in
  too_long h = rw (lt-leb (length region) max_file h)

  pub in-region : length region ≤ max_file → entry_in region p ≡ entry_start p (drop p region)
  unfolding entry_in
  in-region h = rw (le-leb (length region) max_file h)

  pub past_end : length region ≤ max_file → length region ≤ p → entry_in region p ≡ error 2 p
  unfolding entry_start
  past_end h n = in-region h ∙ rw (drop_of_length-le region n, decode-end)

-- the entry that the syntax writes is read, whatever follows it
module _ (e : Extension) (tag-Fits : e.tag < 2 ^ 32) (size_fits : length e.payload < 2 ^ 32) (p : ℕ) (after : List ℕ) where
  abbrev tag : List ℕ
  tag = ue7_bytes e.tag

  abbrev size : List ℕ
  size = ue7_bytes (length e.payload)

  pub entry-written : entry_start p (extension_bytes e ++ after)
      ≡ ok (decoded (record { tag = e.tag; size = length e.payload }) (p + length tag + length size) (e.payload ++ after))
  unfolding entry_start
  entry-written =
      let whole : extension_bytes e ++ after ≡ tag ++ (size ++ (e.payload ++ after)) = simp append_assoc in
      rw (
        whole,
        (ue7-lawful 32).decodes e.tag tag-Fits p p (size ++ (e.payload ++ after)),
        (ue7-lawful 32).decodes (length e.payload) size_fits (p + length tag) (p + length tag) (e.payload ++ after),
        le-leb (length e.payload) (length (e.payload ++ after)) (omega (arith, length-append e.payload after)),
      )
