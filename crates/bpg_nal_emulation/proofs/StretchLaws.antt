-- Stretches: up to a pattern, or to the end where there is none, undoing and redoing keep the bytes as they are, and no rule is broken.
use mathlib.Core.Path.{◌≡◌, refl, sym, ap, ◌∙◌}
use mathlib.Core.Bool.{true, false, ◌&&◌}
use mathlib.Core.List.{List, [], ◌∷◌, ◌++◌, append-nil}
use Prim.Native.Nat.{ℕ, zero, suc, ◌≤◌, ◌<◌}
use native.Mathlib.Omega.{arith}
use lib.Dec.{eqb, ltb}
use lib.ListN.{length, take, drop, get_or}
use borrow.Author.Tests.{lt-ltb, le-ltb, ltb-false, ne_eqb}
use Rattle.bpg_codec.specs.Select.{select}
use Rattle.bpg_codec.proofs.Select.{select-true, select-false}
use Rattle.bpg_nal_units.specs.Search.{offset_of}
use Rattle.bpg_nal_units.proofs.Cases.{by-test, by_equal}
use Rattle.bpg_nal_units.proofs.SearchLaws.{search-here, search-later, search-end}
use Rattle.bpg_nal_emulation.specs.Emulation.{zeros_after, unescape_from, escape_from, unescape, escape, starts_pattern, keeps_rule, keeps_rules}
use Rattle.bpg_nal_emulation.specs.Endings.{ends_open}
use Rattle.bpg_nal_emulation.proofs.PatternLaws.{by_first, by-second, after-zeros, pattern-room}
use Rattle.bpg_nal_emulation.proofs.WalkLaws.{zeros-byte, zeros-first, zeros-more, mark-no-zeros, mark-other, un-end, es-end, un-mark, un-byte, es-low, es-high, es-byte, es-end-open}

-- all of l has no pattern
pub plain-rest : (b : ℕ) (l : List ℕ) → length (b ∷ l) ≤ offset_of starts_pattern (b ∷ l)
    → (starts_pattern (b ∷ l) ≡ false) × (length l ≤ offset_of starts_pattern l)
plain-rest b l h =
    by-test (starts_pattern (b ∷ l)) (λ e. absurd (let f = search-here starts_pattern b l e in omega arith))
    (λ e. (e, let f = search-later starts_pattern b l e in omega arith))

-- ---- either walk: after fewer than two zeros, or at a byte above 03, it keeps the byte

module _ (f : List ℕ → ℕ → List ℕ) (few : (z b : ℕ) (l : List ℕ) → (z ≡ 2 → ⊥) → f (b ∷ l) z ≡ b ∷ f l (zeros_after z b))
    (high : (z b : ℕ) (l : List ℕ) → 4 ≤ b → f (b ∷ l) z ≡ b ∷ f l (zeros_after z b)) (end : (z : ℕ) → (z ≡ 2 → ⊥) → f [] z ≡ []) where
  kept-to : (z b : ℕ) (l : List ℕ) (y : ℕ) → (z ≡ 2 → ⊥) → zeros_after z b ≡ y → f (b ∷ l) z ≡ b ∷ f l y
  kept-to z b l y h e = few z b l h ∙ ap (λ (x : ℕ). b ∷ f l x) e

  kept_high : (z b : ℕ) (l : List ℕ) → 4 ≤ b → f (b ∷ l) z ≡ b ∷ f l 0
  kept_high z b l h = high z b l h ∙ ap (λ (x : ℕ). b ∷ f l x) (zeros-byte z b (λ e. omega arith))

  -- a zero that begins no pattern is forgotten
  forget : (l : List ℕ) → starts_pattern (0 ∷ l) ≡ false → (l ≡ 0 ∷ [] → ⊥) → f l 1 ≡ f l 0
  forget [] h n = end 1 (λ e. omega arith) ∙ sym (end 0 (λ e. omega arith))
  forget (suc b ∷ l) h n =
      kept-to 1 (suc b) l 0 (λ e. omega arith) (zeros-byte 1 (suc b) (λ e. omega arith))
      ∙ sym (kept-to 0 (suc b) l 0 (λ e. omega arith) (zeros-byte 0 (suc b) (λ e. omega arith)))
  forget (zero ∷ []) h n = absurd (n refl)
  forget (zero ∷ e ∷ l) h n =
      let k = ltb-false e 4 (sym (after-zeros e l) ∙ h) in
      kept-to 1 0 (e ∷ l) 2 (λ g. omega arith) (zeros-more 1 0 refl (λ g. omega arith))
      ∙ ap (λ (x : List ℕ). 0 ∷ x) (kept_high 2 e l k ∙ sym (kept_high 1 e l k))
      ∙ sym (kept-to 0 0 (e ∷ l) 1 (λ g. omega arith) (zeros-first 0 0 refl refl))

  step : (b : ℕ) (l : List ℕ) → starts_pattern (b ∷ l) ≡ false → (b ∷ l ≡ 0 ∷ 0 ∷ [] → ⊥) → f (b ∷ l) 0 ≡ b ∷ f l 0
  step zero l h n =
      kept-to 0 0 l 1 (λ e. omega arith) (zeros-first 0 0 refl refl) ∙ ap (λ (x : List ℕ). 0 ∷ x) (forget l h (λ e. n (ap (λ (x : List ℕ). 0 ∷ x) e)))
  step (suc b) l h n = kept-to 0 (suc b) l 0 (λ e. omega arith) (zeros-byte 0 (suc b) (λ e. omega arith))

  pub stretch : (l : List ℕ) → offset_of starts_pattern l < length l
      → f l 0 ≡ take (offset_of starts_pattern l) l ++ f (drop (offset_of starts_pattern l) l) 0
  stretch [] h = absurd (omega arith)
  stretch (b ∷ l) h =
      by-test (starts_pattern (b ∷ l)) (λ e. rw (search-here starts_pattern b l e))
      (λ e.
      let s = search-later starts_pattern b l e in
      let r = pattern-room l (omega arith) in
      rw s (step b l e (λ q. let n = ap length q in omega arith) ∙ ap (λ (x : List ℕ). b ∷ x) (stretch l (omega arith))))

  pub tail : (l : List ℕ) → length l ≤ offset_of starts_pattern l → f l 0 ≡ l ++ select (ends_open l) (f [] 2) []
  unfolding ends_open select
  tail [] h = end 0 (λ e. omega arith)
  tail (b ∷ []) h = let p = plain-rest b [] h in step b [] p.0 (λ q. let n = ap length q in omega arith) ∙ ap (λ (x : List ℕ). b ∷ x) (end 0 (λ e. omega arith))
  tail (zero ∷ zero ∷ []) h =
      kept-to 0 0 (0 ∷ []) 1 (λ e. omega arith) (zeros-first 0 0 refl refl)
      ∙ ap (λ (x : List ℕ). 0 ∷ x) (kept-to 1 0 [] 2 (λ e. omega arith) (zeros-more 1 0 refl (λ e. omega arith)))
  tail (zero ∷ suc c ∷ []) h =
      let p = plain-rest 0 (suc c ∷ []) h in
      rw (ne_eqb (suc c) 0 (λ e. omega arith))
      (step 0 (suc c ∷ []) p.0 (λ q. let n : ◌≡◌ {A = ℕ} (suc c) 0 = cc in omega arith) ∙ ap (λ (x : List ℕ). 0 ∷ x) (tail (suc c ∷ []) p.1))
  tail (suc b ∷ c ∷ []) h =
      let p = plain-rest (suc b) (c ∷ []) h in
      rw (ne_eqb (suc b) 0 (λ e. omega arith))
      (step (suc b) (c ∷ []) p.0 (λ q. let n : ◌≡◌ {A = ℕ} (suc b) 0 = cc in omega arith) ∙ ap (λ (x : List ℕ). suc b ∷ x) (tail (c ∷ []) p.1))
  tail (b ∷ c ∷ d ∷ l) h =
      let p = plain-rest b (c ∷ d ∷ l) h in
      step b (c ∷ d ∷ l) p.0 (λ q. let n = ap length q in omega arith) ∙ ap (λ (x : List ℕ). b ∷ x) (tail (c ∷ d ∷ l) p.1)

-- ---- undoing

un-few : (z b : ℕ) (l : List ℕ) → (z ≡ 2 → ⊥) → unescape_from (b ∷ l) z ≡ b ∷ unescape_from l (zeros_after z b)
un-few z b l h = un-byte z b l (mark-no-zeros z b h)

un-high : (z b : ℕ) (l : List ℕ) → 4 ≤ b → unescape_from (b ∷ l) z ≡ b ∷ unescape_from l (zeros_after z b)
un-high z b l h = un-byte z b l (mark-other z b (λ e. omega arith))

pub un-stretch : (l : List ℕ) → offset_of starts_pattern l < length l
    → unescape l ≡ take (offset_of starts_pattern l) l ++ unescape (drop (offset_of starts_pattern l) l)
un-stretch = stretch unescape_from un-few un-high (λ z h. un-end z)

pub un-tail : (l : List ℕ) → length l ≤ offset_of starts_pattern l → unescape l ≡ l
un-tail l h =
    tail unescape_from un-few un-high (λ z k. un-end z) l h
    ∙ ap (λ (x : List ℕ). l ++ x) (by-test (ends_open l) (λ e. select-true _ _ e ∙ un-end 2) (λ e. select-false _ _ e))
    ∙ append-nil l

pub un-pattern : (l : List ℕ) → unescape (0 ∷ 0 ∷ 3 ∷ l) ≡ 0 ∷ 0 ∷ unescape l
un-pattern l =
    kept-to unescape_from un-few un-high (λ z h. un-end z) 0 0 (0 ∷ 3 ∷ l) 1 (λ e. omega arith) (zeros-first 0 0 refl refl)
    ∙ ap (λ (x : List ℕ). 0 ∷ x)
    (kept-to unescape_from un-few un-high (λ z h. un-end z) 1 0 (3 ∷ l) 2 (λ e. omega arith) (zeros-more 1 0 refl (λ e. omega arith))
    ∙ ap (λ (x : List ℕ). 0 ∷ x) (un-mark 2 3 l refl))

-- ---- redoing

es-above : (z b : ℕ) (l : List ℕ) → 4 ≤ b → escape_from (b ∷ l) z ≡ b ∷ escape_from l (zeros_after z b)
es-above z b l h = by_equal z 2 (λ e. es-high z b l e h) (es-byte z b l)

pub es-stretch : (l : List ℕ) → offset_of starts_pattern l < length l
    → escape l ≡ take (offset_of starts_pattern l) l ++ escape (drop (offset_of starts_pattern l) l)
es-stretch = stretch escape_from es-byte es-above es-end

pub es-tail : (l : List ℕ) → length l ≤ offset_of starts_pattern l → escape l ≡ l ++ select (ends_open l) (3 ∷ []) []
es-tail l h = tail escape_from es-byte es-above es-end l h ∙ rw es-end-open

pub es-pattern : (b : ℕ) (l : List ℕ) → b < 4 → escape (0 ∷ 0 ∷ b ∷ l) ≡ 0 ∷ 0 ∷ 3 ∷ escape (b ∷ l)
es-pattern b l h =
    kept-to escape_from es-byte es-above es-end 0 0 (0 ∷ b ∷ l) 1 (λ e. omega arith) (zeros-first 0 0 refl refl)
    ∙ ap (λ (x : List ℕ). 0 ∷ x)
    (kept-to escape_from es-byte es-above es-end 1 0 (b ∷ l) 2 (λ e. omega arith) (zeros-more 1 0 refl (λ e. omega arith))
    ∙ ap (λ (x : List ℕ). 0 ∷ x) (es-low 2 b l refl h ∙ ap (λ (x : List ℕ). 3 ∷ x) (sym (es-byte 0 b l (λ e. omega arith)))))

-- ---- the rules

keeps-all : (b : ℕ) (l : List ℕ) → keeps_rules (b ∷ l) ≡ (keeps_rule (b ∷ l) && keeps_rules l)
unfolding keeps_rules
keeps-all b l = refl

pub keeps-step : (b : ℕ) (l : List ℕ) → starts_pattern (b ∷ l) ≡ false → keeps_rules (b ∷ l) ≡ keeps_rules l
keeps-step b l e = keeps-all b l ∙ rw e

pub keeps-stretch : (l : List ℕ) → keeps_rules l ≡ keeps_rules (drop (offset_of starts_pattern l) l)
keeps-stretch [] = rw (search-end starts_pattern)
keeps-stretch (b ∷ l) =
    by-test (starts_pattern (b ∷ l)) (λ e. rw (search-here starts_pattern b l e))
    (λ e. rw (search-later starts_pattern b l e) (keeps-step b l e ∙ keeps-stretch l))

pub keeps-tail : (l : List ℕ) → length l ≤ offset_of starts_pattern l → keeps_rules l ≡ true
unfolding keeps_rules
keeps-tail [] h = refl
keeps-tail (b ∷ l) h = let p = plain-rest b l h in keeps-step b l p.0 ∙ keeps-tail l p.1

-- after 00 00: 03, and 00 to 03 or nothing behind it
keeps-pattern : (b : ℕ) (l : List ℕ) → b < 4 → keeps_rules (0 ∷ 0 ∷ b ∷ l) ≡ ((eqb b 3 && ltb (get_or l 0 0) 4) && keeps_rules (0 ∷ b ∷ l))
keeps-pattern b l h = keeps-all 0 (0 ∷ b ∷ l) ∙ rw (lt-ltb b 4 h)

pub keeps-mark : (l : List ℕ) → get_or l 0 0 ≤ 3 → keeps_rules (0 ∷ 0 ∷ 3 ∷ l) ≡ keeps_rules l
keeps-mark l h =
    keeps-pattern 3 l (omega arith) ∙ rw (lt-ltb (get_or l 0 0) 4 (omega arith))
    (keeps-step 0 (3 ∷ l) (by-second (0 ∷ 3 ∷ l) (λ e. omega arith)) ∙ keeps-step 3 l (by_first (3 ∷ l) (λ e. omega arith)))

pub keeps_high : (l : List ℕ) → 3 < get_or l 0 0 → keeps_rules (0 ∷ 0 ∷ 3 ∷ l) ≡ false
keeps_high l h = keeps-pattern 3 l (omega arith) ∙ rw (le-ltb (get_or l 0 0) 4 h)

pub keeps-other : (b : ℕ) (l : List ℕ) → b < 4 → (b ≡ 3 → ⊥) → keeps_rules (0 ∷ 0 ∷ b ∷ l) ≡ false
keeps-other b l h k = keeps-pattern b l h ∙ rw (ne_eqb b 3 k)
