-- What the code answers of messages: how each case is made, and what goes over from one message to the next.
use mathlib.Core.Path.{◌≡◌, refl, sym, ap, ◌∙◌}
use mathlib.Core.Bool.{true, false}
use Rattle.std.proofs.Common.{Option, Some, None}
use mathlib.Core.List.{List, [], ◌∷◌, ◌++◌, append-nil}
use Prim.Native.Nat.{ℕ, min, ◌+◌, ◌-◌, ◌*◌, ◌≤◌, ◌<◌, ◌^◌}
use native.Mathlib.Omega.{arith}
use lib.ListN.{length, drop, length-drop, length-append}
use Rattle.bpg_codec.specs.Outcome.{Outcome, ok, error}
use Rattle.bpg_codec.proofs.Lists.{either_way}
use Rattle.bpg_nal_units.proofs.Cases.{by-test}
use Rattle.bpg_bytes.specs.declared.position.Located.{Located}
use Rattle.bpg_nal_emulation.specs.Emulation.{zeros_after, is_mark, unescape_from, content_at}
use Rattle.bpg_nal_emulation.proofs.WalkLaws.{un-end, un-mark, un-byte}
use Rattle.bpg_sei.specs.declared.content.Cursor.{Cursor}
use Rattle.bpg_sei.specs.declared.messages.Durations.{Durations}
use Rattle.bpg_sei.specs.Messages.{sum_from, payload_of, message_of, ends, messages_from, durations_in}
use Rattle.bpg_sei.specs.Steps.{left_at, Stepped, Summed, Skipped, set, DurationRead, MessageRead, heard, last_of, summary, summed_up}
use Rattle.bpg_sei.proofs.MessageLaws.{pay-short, pay-pair, pay-other, msg-no-type, msg-no-size, msg-payload, messages-cut, messages-last, messages-more}

-- ---- no content is longer than its unit

un-most : (l : List ℕ) (z : ℕ) → length (unescape_from l z) ≤ length l
un-most [] z = rw (un-end z) (omega arith)
un-most (b ∷ l) z =
    by-test (is_mark z b)
    (λ e. rw (un-mark z b l e) (let h = un-most l 0 in omega arith))
    (λ e. rw (un-byte z b l e) (let h = un-most l (zeros_after z b) in omega arith))

left-most : (u : List ℕ) (c : Cursor) → length (left_at u c) ≤ length u
unfolding content_at
left-most u c = let h = un-most (drop c.at.0 u) c.zeros in omega (arith, length-drop c.at.0 u)

-- ---- a duration

module _ (u : List ℕ) (c : Cursor) (n : ℕ) (h : n ≡ 2) where
  pub no-high : left_at u c ≡ [] → payload_of 257 n (left_at u c) ≡ error 22 0
  no-high e = pay-short 257 n (left_at u c) (omega (arith, ap length e))

  module _ (high : Located ℕ Cursor) (v : Stepped u c high) where
    pub no-low : left_at u high.next ≡ [] → payload_of 257 n (left_at u c) ≡ error 22 0
    no-low e = pay-short 257 n (left_at u c) (omega (arith, ap length v.same, ap length e))

    pub a-duration : (low : Located ℕ Cursor) → Stepped u high.next low
        → DurationRead u c n (record { value = high.value * 256 + low.value; next = low.next })
    a-duration low w =
        let k = v.onward.further in
        let g = w.onward.further in
        record {
          same = pay-pair n (left_at u c) high.value low.value (left_at u low.next) h (v.same ∙ ap (λ (x : List ℕ). high.value ∷ x) w.same);
          onward = record { further = omega arith; inside = w.onward.inside };
        }

-- ---- a message

module _ (u : List ℕ) (c : Cursor) where
  pub no-type : sum_from (left_at u c) 0 ≡ error 22 0 → message_of (left_at u c) ≡ error 22 0
  no-type e = msg-no-type (left_at u c) e

  module _ (kind : Located ℕ Cursor) (v : Summed u c kind) where
    pub no_size : sum_from (left_at u kind.next) 0 ≡ error 22 0 → message_of (left_at u c) ≡ error 22 0
    no_size e = msg-no-size (left_at u c) v.v (left_at u kind.next) v.same e

    module _ (size : Located ℕ Cursor) (w : Summed u kind.next size) (small : length u < 2 ^ 63) where
      -- a size that was cut to 2^64 - 1 is as much too long as it was
      as_long : (x n value : ℕ) → value ≡ min n (2 ^ 64 - 1) → payload_of x n (left_at u size.next) ≡ payload_of x value (left_at u size.next)
      as_long x n value e =
          let h = left-most u size.next in
          either_way n (2 ^ 64 - 1)
          (λ k. ap (λ (y : ℕ). payload_of x y (left_at u size.next)) (omega arith))
          (λ k. pay-short x n (left_at u size.next) (omega arith) ∙ sym (pay-short x value (left_at u size.next) (omega arith)))

      onward : c.at.0 < size.next.at.0
      onward = let a = v.onward.further in let b = w.onward.further in omega arith

      the-payload : (x : ℕ) → v.v ≡ x → message_of (left_at u c) ≡ payload_of x size.value (left_at u size.next)
      the-payload x e =
          msg-payload (left_at u c) v.v (left_at u kind.next) v.same w.v (left_at u size.next) w.same
          ∙ ap (λ (y : ℕ). payload_of y w.v (left_at u size.next)) e ∙ as_long x w.v size.value w.value-is

      module _ (e : kind.value ≡ 257) where
        timed : message_of (left_at u c) ≡ payload_of 257 size.value (left_at u size.next)
        timed = the-payload 257 (let a = v.value-is in omega arith)

        pub no-duration : payload_of 257 size.value (left_at u size.next) ≡ error 22 0 → message_of (left_at u c) ≡ error 22 0
        no-duration f = timed ∙ f

        pub timed-message : (d : Located ℕ Cursor) → DurationRead u size.next size.value d → MessageRead u c (record { value = Some d.value; next = d.next })
        timed-message d y =
            let k = onward in
            let o = y.onward.further in
            record { same = timed ∙ y.same; onward = record { further = omega arith; inside = y.onward.inside } }

      module _ (e : kind.value ≡ 257 → ⊥) where
        plain : message_of (left_at u c) ≡ payload_of v.v size.value (left_at u size.next)
        plain = the-payload v.v refl

        other : v.v ≡ 257 → ⊥
        other g = e (let a = v.value-is in omega arith)

        pub no_payload : length (left_at u size.next) < size.value → message_of (left_at u c) ≡ error 22 0
        no_payload f = plain ∙ pay-short v.v size.value (left_at u size.next) f

        pub plain-message : (d : Cursor) → Skipped u size.next size.value d → MessageRead u c (record { value = None; next = d })
        plain-message d y =
            let a = onward in
            let b = y.no-back in
            record {
              same = plain ∙ pay-other v.v size.value (left_at u size.next) other y.there ∙ rw y.same;
              onward = record { further = omega arith; inside = y.stays w.onward.inside };
            }

-- ---- what the messages so far have set

last_snoc : (ds : List ℕ) (d : ℕ) → last_of (ds ++ (d ∷ [])) ≡ d
unfolding last_of
last_snoc [] d = refl
last_snoc (e ∷ []) d = refl
last_snoc (e ∷ f ∷ ds) d = last_snoc (f ∷ ds) d

heard-is : (ds : List ℕ) (d : Option ℕ) → heard (summary ds) d ≡ summary (ds ++ set d)
heard-is ds (Some d) = rw (last_snoc ds d, length-append ds (d ∷ []))
heard-is ds None = rw (append-nil ds)

-- ---- all messages

pub record Hearing (u : List ℕ) (all : Outcome (List ℕ)) (c : Cursor) (s : Durations) : Type 0 where
  pub ds : List ℕ
  pub sum-is : s ≡ summary ds
  pub same : all ≡ messages_from (left_at u c) ds
  pub few : s.count ≤ c.at.0

pub hearing : (u : List ℕ) (s : Durations) → s.count ≡ 0 → s.last ≡ 0
    → Hearing u (durations_in (content_at u 2 0)) (record { at = record { 0 = 2 }; zeros = 0 }) s
unfolding last_of
hearing u s e g = record { ds = []; sum-is = ap (λ n. record { count = n; last = s.last }) e ∙ ap (λ d. record { count = 0; last = d }) g; same = refl; few = omega arith }

module _ {u : List ℕ} {all : Outcome (List ℕ)} {c : Cursor} {s : Durations} (h : Hearing u all c s) where
  pub all-cut : message_of (left_at u c) ≡ error 22 0 → error 22 0 ≡ summed_up all
  all-cut f = rw (h.same, messages-cut (left_at u c) h.ds f)

  module _ (m : Located (Option ℕ) Cursor) (w : MessageRead u c m) (next : Durations) (n : next ≡ heard s m.value) where
    next-is : next ≡ summary (h.ds ++ set m.value)
    next-is = n ∙ ap (λ (x : Durations). heard x m.value) h.sum-is ∙ heard-is h.ds m.value

    pub all-heard : ends (left_at u m.next) ≡ true → ok next ≡ summed_up all
    all-heard e = ap ok next-is ∙ ap summed_up (sym (h.same ∙ messages-last (left_at u c) h.ds _ (left_at u m.next) w.same e))

    one-count : (d : Option ℕ) → (heard s d).count ≤ s.count + 1
    one-count (Some d) = omega arith
    one-count None = omega arith

    pub more-heard : ends (left_at u m.next) ≡ false → Hearing u all m.next next
    more-heard e =
        let k = one-count m.value in
        let o = w.onward.further in
        let f = h.few in
        record {
          ds = h.ds ++ set m.value;
          sum-is = next-is;
          same = h.same ∙ messages-more (left_at u c) h.ds _ (left_at u m.next) w.same e;
          few = rw n (omega arith);
        }
