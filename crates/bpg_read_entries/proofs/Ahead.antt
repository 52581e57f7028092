-- A region that ends with these entries, of which the first stands at p: what is read there, and after it.
use mathlib.Core.Path.{◌≡◌, ap, ◌∙◌}
use mathlib.Core.List.{List, [], ◌∷◌, ◌++◌}
use Prim.Native.Nat.{ℕ, ◌+◌, ◌^◌, ◌≤◌, ◌<◌}
use native.Mathlib.Omega.{arith}
use lib.ListN.{length, drop, length-append, length-drop}
use lib.Seq.{drop-append_seam, drop-drop}
use Rattle.bpg_codec.specs.Outcome.{ok, error, decoded}
use Rattle.bpg_codec.specs.Lawful.{All}
use Rattle.bpg_ue7.specs.Ue7.{ue7_bytes}
use Rattle.bpg_format.specs.Limits.{max_file}
use Rattle.bpg_format.specs.Content.{Extension, AnimationControl}
use Rattle.bpg_format.specs.Syntax.{extension_bytes, block_bytes}
use Rattle.bpg_format.specs.Rules.{ExtensionRules}
use Rattle.bpg_read_entries.specs.Entries.{entry_start, entry_in}
use Rattle.bpg_read_entries.proofs.CheckedEntry.{in-region, past_end, entry-written}

pub record Ahead (region : List ℕ) (p : ℕ) (es : List Extension) : Type 0 where
  pub short : length region ≤ max_file
  pub left : drop p region ≡ block_bytes es
  pub fit : All (λ (e : Extension). e.tag < 2 ^ 32) es

pub tags-fit : (l : AnimationControl) (es : List Extension) → All (ExtensionRules l) es → All (λ (e : Extension). e.tag < 2 ^ 32) es
tags-fit l [] h = tt
tags-fit l (e ∷ es) h = (h.0.tag, tags-fit l es h.1)

module _ (region : List ℕ) (p : ℕ) where
  -- the last was passed
  pub none_ahead : Ahead region p [] → entry_in region p ≡ error 2 p
  none_ahead a = past_end region p a.short (omega (arith, ap length a.left, length-drop p region))

  module _ (e : Extension) (es : List Extension) (a : Ahead region p (e ∷ es)) where
    abbrev pub start : ℕ
    start = p + length (ue7_bytes e.tag) + length (ue7_bytes (length e.payload))

    size : length (extension_bytes e) ≡ length (ue7_bytes e.tag) + length (ue7_bytes (length e.payload)) + length e.payload
    size = simp length-append (omega arith)

    pub small : length e.payload < 2 ^ 32
    small = omega (arith, size, a.short, length-append (extension_bytes e) (block_bytes es), ap length a.left, length-drop p region)

    pub entry-ahead : entry_in region p ≡ ok (decoded (record { tag = e.tag; size = length e.payload }) start (e.payload ++ block_bytes es))
    entry-ahead = in-region region p a.short ∙ ap (entry_start p) a.left ∙ entry-written e a.fit.0 small p (block_bytes es)

    pub past : start + length e.payload ≡ p + length (extension_bytes e)
    past = omega (arith, size)

    pub more-ahead : Ahead region (p + length (extension_bytes e)) es
    more-ahead =
        record { short = a.short; left = rw (← drop-drop, a.left, drop-append_seam (extension_bytes e) (block_bytes es)); fit = a.fit.1 }
