-- A buffer that is filled from its front, stretch by stretch.
use mathlib.Core.Path.{◌≡◌, refl, sym, ap, ◌∙◌}
use mathlib.Core.List.{List, [], ◌∷◌, ◌++◌, append_assoc, append-nil}
use Prim.Native.Nat.{ℕ, ◌+◌, ◌≤◌, ◌<◌}
use native.Mathlib.Numerals.{add-one}
use native.Mathlib.Omega.{arith}
use lib.ListN.{length, drop, set, length-append, length-drop}
use lib.Seq.{set_split, take-append_seam, drop-append-add, drop-drop}
use Rattle.bpg_codec.specs.Buffer.{splice, written, written_end}
use Rattle.bpg_codec.proofs.Buffer.{stored, length-splice, splice-splice}

-- ---- one more after a write

module _ (out bytes after : List ℕ) (at end x : ℕ) (h : at + length bytes + 1 ≤ length out)
    (e : after ≡ written out at bytes) (f : end ≡ written_end out at bytes) where
  pub end_is : end ≡ at + length bytes
  end_is = f ∙ sym (stored out at bytes (omega arith)).1

  after_is : after ≡ splice out at bytes
  after_is = e ∙ sym (stored out at bytes (omega arith)).0

  pub end-inside : end < length after
  end-inside = rw (after_is, length-splice out at bytes (omega arith)) (omega (arith, end_is))

  pub one_more : set after end x ≡ written out at (bytes ++ (x ∷ []))
  one_more =
      set_split after end x end-inside
      ∙ rw (sym (add-one end), end_is, after_is) (splice-splice out at bytes (x ∷ []) (omega arith))
      ∙ (stored out at (bytes ++ (x ∷ [])) (rw length-append (omega arith))).0

-- ---- a buffer on its way: what is done stands at its front, then what it held there; `rest` of all is still to come

abbrev pub filled : (out done : List ℕ) → List ℕ
filled out done = done ++ drop (length done) out

pub record Filling (all rest out₀ out : List ℕ) (at : ℕ) : Type 0 where
  pub done : List ℕ
  pub at-end : at ≡ length done
  pub front : out ≡ filled out₀ done
  pub all-is : done ++ rest ≡ all

pub begun : (all out : List ℕ) → Filling all all out out 0
begun all out = record { done = []; at-end = refl; front = refl; all-is = refl }

module _ {all rest out₀ out : List ℕ} {at : ℕ} (f : Filling all rest out₀ out at) (room : length all ≤ length out₀) where
  pub length-filling : length out ≡ length out₀
  length-filling =
      let e = simp length-append at (ap length f.all-is) in
      ap length f.front ∙ simp (length-append, length-drop) (omega arith)

  -- a stretch more
  module _ (piece rest' : List ℕ) (split : rest ≡ piece ++ rest') where
    again : (f.done ++ piece) ++ rest' ≡ all
    again = append_assoc f.done piece rest' ∙ ap (λ (x : List ℕ). f.done ++ x) (sym split) ∙ f.all-is

    pub fits : at + length piece ≤ length out
    fits = let e = simp length-append at (ap length again) in rw (length-filling, f.at-end) (omega arith)

    module _ (after : List ℕ) (w : after ≡ written out at piece) where
      front-more : after ≡ filled out₀ (f.done ++ piece)
      front-more =
          w ∙ sym (stored out at piece fits).0
          ∙ rw (f.front, f.at-end) (simp (take-append_seam, drop-append-add, drop-drop, append_assoc, length-append))

      pub filling-more : (end : ℕ) → end ≡ at + length piece → Filling all rest' out₀ after end
      filling-more end e =
          record { done = f.done ++ piece; at-end = e ∙ rw (f.at-end, length-append); front = front-more; all-is = again }

      pub filling-last : rest' ≡ [] → after ≡ filled out₀ all
      filling-last z =
          let all_done : f.done ++ piece ≡ all = sym (append-nil (f.done ++ piece)) ∙ ap (λ (x : List ℕ). (f.done ++ piece) ++ x) (sym z) ∙ again in
          front-more ∙ ap (filled out₀) all_done
