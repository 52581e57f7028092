-- Undoing and redoing are each other's way back.
use mathlib.Core.Path.{◌≡◌, refl, sym, ap, ◌∙◌}
use mathlib.Core.Bool.{Bool, true, false}
use mathlib.Core.List.{List, [], ◌∷◌}
use Prim.Native.Nat.{ℕ, zero, suc, ◌≤◌}
use native.Mathlib.Omega.{arith}
use lib.Dec.{eqb}
use lib.ListN.{get_or}
use borrow.Author.Tests.{ne_eqb}
use Rattle.bpg_codec.proofs.Lists.{either_way}
use Rattle.bpg_nal_units.specs.Units.{trim_zeros}
use Rattle.bpg_nal_units.specs.Endings.{ends_zero}
use Rattle.bpg_nal_units.proofs.Cases.{by_equal, one_answer, and-false}
use Rattle.bpg_nal_units.proofs.TrimLaws.{trim-ends}
use Rattle.bpg_nal_units.proofs.UnitLaws.{every-unit}
use Rattle.bpg_nal_emulation.specs.Emulation.{zeros_after, unescape_from, escape_from, unescape, escape, keeps_rules}
use Rattle.bpg_nal_emulation.specs.Endings.{ends_open}
use Rattle.bpg_nal_emulation.specs.RoundTrips.{RoundTrips}
use Rattle.bpg_nal_emulation.proofs.PatternLaws.{by_first, by-second, by-third}
use Rattle.bpg_nal_emulation.proofs.WalkLaws.{zeros-byte, zeros-first, zeros-more, zeros-most, mark-yes, mark-no-zeros, mark-other, un-end, un-mark, un-byte}
use Rattle.bpg_nal_emulation.proofs.WalkLaws.{es-end, es-end-open, es-low, es-high, es-byte}
use Rattle.bpg_nal_emulation.proofs.StretchLaws.{keeps-step, keeps-mark, keeps_high, keeps-other}

-- z zeros before l: what a walk over l after z zeros speaks of
abbrev pre : ℕ → List ℕ → List ℕ
pre zero l = l
pre (suc z) l = 0 ∷ pre z l

to : (test : List ℕ → Bool) {z w : ℕ} (l : List ℕ) → z ≡ w → test (pre z l) ≡ test (pre w l)
to test l e = ap (λ (z : ℕ). test (pre z l)) e

-- ---- the rules, walking

-- a byte that is no zero begins no pattern, nor is it the second byte of one
keeps-past : (b : ℕ) (l : List ℕ) → keeps_rules (0 ∷ suc b ∷ l) ≡ keeps_rules l
keeps-past b l =
    keeps-step 0 (suc b ∷ l) (by-second (0 ∷ suc b ∷ l) (λ e. omega arith)) ∙ keeps-step (suc b) l (by_first (suc b ∷ l) (λ e. omega arith))

-- after 00 00 a byte is above 03, or 03 with one of 00 to 03 or nothing behind it
abbrev Allowed : ℕ → List ℕ → Type 0
Allowed b l = (3 ≤ b) × (b ≡ 3 → get_or l 0 0 ≤ 3)

keeps-three : (b : ℕ) (l : List ℕ) → Allowed (suc b) l → keeps_rules (0 ∷ 0 ∷ suc b ∷ l) ≡ keeps_rules l
keeps-three b l k =
    by_equal (suc b) 3
    (λ e. ap (λ (x : ℕ). keeps_rules (0 ∷ 0 ∷ x ∷ l)) e ∙ keeps-mark l (k.1 e))
    (λ e. let h = k.0 in keeps-step 0 (0 ∷ suc b ∷ l) (by-third (0 ∷ 0 ∷ suc b ∷ l) (omega arith)) ∙ keeps-past b l)

walk : (z b : ℕ) (l : List ℕ) → z ≤ 2 → (z ≡ 2 → Allowed b l) → keeps_rules (pre z (b ∷ l)) ≡ keeps_rules (pre (zeros_after z b) l)
walk zero zero l h k = sym (to keeps_rules l (zeros-first 0 0 refl refl))
walk zero (suc b) l h k = keeps-step (suc b) l (by_first (suc b ∷ l) (λ e. omega arith)) ∙ sym (to keeps_rules l (zeros-byte 0 (suc b) (λ e. omega arith)))
walk (suc zero) zero l h k = sym (to keeps_rules l (zeros-more 1 0 refl (λ e. omega arith)))
walk (suc zero) (suc b) l h k = keeps-past b l ∙ sym (to keeps_rules l (zeros-byte 1 (suc b) (λ e. omega arith)))
walk (suc (suc zero)) zero l h k = absurd (let w = (k refl).0 in omega arith)
walk (suc (suc zero)) (suc b) l h k = keeps-three b l (k refl) ∙ sym (to keeps_rules l (zeros-byte 2 (suc b) (λ e. omega arith)))
walk (suc (suc (suc z))) b l h k = absurd (omega arith)

asked : (b : ℕ) (l : List ℕ) → keeps_rules (0 ∷ 0 ∷ b ∷ l) ≡ true → Allowed b l
asked b l g =
    either_way 3 b
    (λ h. (h, λ e. either_way (get_or l 0 0) 3 (λ k. k) (λ k. one_answer g (ap (λ (x : ℕ). keeps_rules (0 ∷ 0 ∷ x ∷ l)) e ∙ keeps_high l k))))
    (λ h. one_answer g (keeps-other b l (omega arith) (λ e. omega arith)))

-- after z zeros
asked-after : (z b : ℕ) (l : List ℕ) → keeps_rules (pre z (b ∷ l)) ≡ true → z ≡ 2 → Allowed b l
asked-after z b l g e = asked b l (sym (to keeps_rules (b ∷ l) e) ∙ g)

kept : (z b : ℕ) (l : List ℕ) → z ≤ 2 → keeps_rules (pre z (b ∷ l)) ≡ true → keeps_rules (pre (zeros_after z b) l) ≡ true
kept z b l h g = sym (walk z b l h (asked-after z b l g)) ∙ g

-- ---- what redoing writes keeps the rules

keeps-none : (z : ℕ) → z ≤ 1 → keeps_rules (pre z []) ≡ true
unfolding keeps_rules
keeps-none zero h = refl
keeps-none (suc zero) h = refl
keeps-none (suc (suc z)) h = absurd (omega arith)

es-keeps : (l : List ℕ) (z : ℕ) → z ≤ 2 → keeps_rules (pre z (escape_from l z)) ≡ true
es-keeps [] z h =
    by_equal z 2
    (λ e. rw (e, es-end-open) (keeps-mark [] (omega arith) ∙ keeps-none 0 (omega arith)))
    (λ e. rw (es-end z e) (keeps-none z (omega arith)))
es-keeps (b ∷ l) z h =
    by_equal z 2
    (λ e.
    either_way 4 b
    (λ k.
    rw (es-high z b l e k)
    (walk z b (escape_from l (zeros_after z b)) h (λ _. (omega arith, λ f. absurd (omega arith))) ∙ es-keeps l (zeros_after z b) (zeros-most z b)))
    (λ k.
    let r = escape_from l (zeros_after 0 b) in
    rw (es-low z b l e k)
    (walk z 3 (b ∷ r) h (λ _. (omega arith, λ f. omega arith)) ∙ to keeps_rules (b ∷ r) (zeros-byte z 3 (λ f. omega arith))
    ∙ walk 0 b r (omega arith) (λ f. absurd (omega arith)) ∙ es-keeps l (zeros_after 0 b) (zeros-most 0 b))))
    (λ e. rw (es-byte z b l e) (walk z b (escape_from l (zeros_after z b)) h (λ f. absurd (e f)) ∙ es-keeps l (zeros_after z b) (zeros-most z b)))

-- ---- and is undone to what it was made of

es-un : (l : List ℕ) (z : ℕ) → unescape_from (escape_from l z) z ≡ l
es-un [] z = by_equal z 2 (λ e. rw (e, es-end-open, un-mark 2 3 [] refl, un-end 0)) (λ e. rw (es-end z e, un-end z))
es-un (b ∷ l) z =
    by_equal z 2
    (λ e.
    either_way 4 b
    (λ k. rw (es-high z b l e k, un-byte z b (escape_from l (zeros_after z b)) (mark-other z b (λ f. omega arith))) (ap (λ (x : List ℕ). b ∷ x) (es-un l (zeros_after z b))))
    (λ k.
    let r = escape_from l (zeros_after 0 b) in
    rw (es-low z b l e k, un-mark z 3 (b ∷ r) (mark-yes z 3 e refl), un-byte 0 b r (mark-no-zeros 0 b (λ f. omega arith)))
    (ap (λ (x : List ℕ). b ∷ x) (es-un l (zeros_after 0 b)))))
    (λ e. rw (es-byte z b l e, un-byte z b (escape_from l (zeros_after z b)) (mark-no-zeros z b e)) (ap (λ (x : List ℕ). b ∷ x) (es-un l (zeros_after z b))))

-- ---- undone, then redone

-- a byte that is no zero ends no 00 00, and none goes over it
ends-first : (b : ℕ) (l : List ℕ) → ends_open (suc b ∷ l) ≡ ends_open l
unfolding ends_open
ends-first b [] = refl
ends-first b (c ∷ []) = rw (ne_eqb (suc b) 0 (λ e. omega arith))
ends-first b (c ∷ d ∷ l) = refl

ends-second : (b : ℕ) (l : List ℕ) → ends_open (0 ∷ suc b ∷ l) ≡ ends_open (suc b ∷ l)
unfolding ends_open
ends-second b [] = ne_eqb (suc b) 0 (λ e. omega arith)
ends-second b (c ∷ l) = refl

ends-third : (b : ℕ) (l : List ℕ) → ends_open (0 ∷ 0 ∷ b ∷ l) ≡ ends_open (0 ∷ b ∷ l)
unfolding ends_open
ends-third b l = refl

ends-walk : (z b : ℕ) (l : List ℕ) → z ≤ 2 → ends_open (pre z (b ∷ l)) ≡ ends_open (pre (zeros_after z b) l)
ends-walk zero zero l h = sym (to ends_open l (zeros-first 0 0 refl refl))
ends-walk zero (suc b) l h = ends-first b l ∙ sym (to ends_open l (zeros-byte 0 (suc b) (λ e. omega arith)))
ends-walk (suc zero) zero l h = sym (to ends_open l (zeros-more 1 0 refl (λ e. omega arith)))
ends-walk (suc zero) (suc b) l h = ends-second b l ∙ ends-first b l ∙ sym (to ends_open l (zeros-byte 1 (suc b) (λ e. omega arith)))
ends-walk (suc (suc zero)) zero l h = ends-third 0 l ∙ sym (to ends_open l (zeros-more 2 0 refl (λ e. omega arith)))
ends-walk (suc (suc zero)) (suc b) l h =
    ends-third (suc b) l ∙ ends-second b l ∙ ends-first b l ∙ sym (to ends_open l (zeros-byte 2 (suc b) (λ e. omega arith)))
ends-walk (suc (suc (suc z))) b l h = absurd (omega arith)

open-two : ends_open (0 ∷ 0 ∷ []) ≡ true
unfolding ends_open
open-two = refl

-- the first byte after a mark is no mark
first-same : (l : List ℕ) → get_or (unescape_from l 0) 0 0 ≡ get_or l 0 0
first-same [] = rw (un-end 0)
first-same (b ∷ l) = rw (un-byte 0 b l (mark-no-zeros 0 b (λ f. omega arith)))

-- before a byte of 00 to 03, or at the end, 00 00 takes a mark
takes-mark : (r : List ℕ) → get_or r 0 0 ≤ 3 → escape_from r 2 ≡ 3 ∷ escape_from r 0
takes-mark [] h = rw (es-end-open, es-end 0 (λ f. omega arith))
takes-mark (b ∷ r) h = rw (es-low 2 b r refl (omega arith), es-byte 0 b r (λ f. omega arith))

un-es : (l : List ℕ) (z : ℕ) → z ≤ 2 → keeps_rules (pre z l) ≡ true → ends_open (pre z l) ≡ false → escape_from (unescape_from l z) z ≡ l
un-es [] z h g o = rw (un-end z, es-end z (λ e. one_answer open-two (sym (to ends_open [] e) ∙ o)))
un-es (b ∷ l) z h g o =
    let next = kept z b l h g in
    let shut = sym (ends-walk z b l h) ∙ o in
    let rest = un-es l (zeros_after z b) (zeros-most z b) next shut in
    by_equal z 2
    (λ e.
    let a = asked-after z b l g e in
    by_equal b 3
    (λ f.
    let none = zeros-byte z b (λ q. omega arith) in
    rw (un-mark z b l (mark-yes z b e f), e, f, takes-mark (unescape_from l 0) (rw (first-same l) (a.1 f)))
    (ap (λ (x : List ℕ). 3 ∷ x) (un-es l 0 (omega arith) (sym (to keeps_rules l none) ∙ next) (sym (to ends_open l none) ∙ shut))))
    (λ f.
    let k = a.0 in
    rw (un-byte z b l (mark-other z b f), es-high z b (unescape_from l (zeros_after z b)) e (omega arith)) (ap (λ (x : List ℕ). b ∷ x) rest)))
    (λ e. rw (un-byte z b l (mark-no-zeros z b e), es-byte z b (unescape_from l (zeros_after z b)) e) (ap (λ (x : List ℕ). b ∷ x) rest))

-- ---- units

-- bytes that end in 00 00 end in a zero
open-zero : (l : List ℕ) → ends_zero l ≡ false → ends_open l ≡ false
unfolding ends_open ends_zero
open-zero [] e = refl
open-zero (a ∷ []) e = refl
open-zero (a ∷ b ∷ []) e = and-false (eqb a 0) (eqb b 0) e
open-zero (a ∷ b ∷ c ∷ l) e = open-zero (b ∷ c ∷ l) e

shut-unit : (v : List ℕ) → ends_open (trim_zeros v) ≡ false
shut-unit v = open-zero (trim_zeros v) (trim-ends v)

pub round-trips : RoundTrips
round-trips =
    record {
      redone = λ u g o. un-es u 0 (omega arith) g o;
      no-open-unit = every-unit (λ u. ends_open u.bytes ≡ false) (λ p v. shut-unit v);
      units-redone =
          every-unit (λ u. keeps_rules u.bytes ≡ true → escape (unescape u.bytes) ≡ u.bytes)
          (λ p v g. un-es (trim_zeros v) 0 (omega arith) g (shut-unit v));
      written-kept = λ l. es-keeps l 0 (omega arith);
      undone = λ l. es-un l 0;
    }
