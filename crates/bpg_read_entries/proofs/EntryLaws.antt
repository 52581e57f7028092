-- Reading an entry: its start, by the case that it falls into; then its payload, which has loop numbers where its tag is 5.
use mathlib.Core.Path.{◌≡◌, refl, sym, ap, ◌∙◌, subst}
use mathlib.Core.Bool.{Bool, true, false, not, ◌&&◌}
use mathlib.Core.Logic.{◌≢◌}
use mathlib.Core.List.{List}
use Prim.Native.Nat.{ℕ, ◌+◌, ◌-◌, ◌≤◌}
use native.Mathlib.Omega.{arith}
use lib.Dec.{leb, eqb, leb→le}
use lib.ListN.{length, take, drop, length-drop}
use lib.Seq.{drop-drop}
use borrow.Author.Tests.{eq-eqb, ne_eqb}
use Rattle.bpg_codec.specs.Select.{select}
use Rattle.bpg_codec.specs.Outcome.{Outcome, ok, error, ◌>>=◌, guard, Decoded, decoded, located}
use Rattle.bpg_codec.specs.Lawful.{All, Byte}
use Rattle.bpg_codec.proofs.Select.{select-true, select-false}
use Rattle.bpg_codec.proofs.Lists.{take-drop}
use Rattle.bpg_codec.proofs.Tokens.{all_take, all_drop}
use Rattle.bpg_codec.proofs.Outcome.{error-not-ok, ok-injective, unbind, unguard, bind_assoc}
use Rattle.bpg_codec.proofs.Positions.{left_after, within}
use Rattle.bpg_ue7.specs.Ue7.{ue7}
use Rattle.bpg_ue7.proofs.Advances.{ue7-advances}
use Rattle.bpg_ue7.proofs.ReadAt.{value_read, step_at}
use Rattle.bpg_format.specs.Content.{Extension, AnimationControl}
use Rattle.bpg_format.specs.Rules.{no_animation}
use Rattle.bpg_format.specs.Read.{read_animation, animation_from, read_entry}
use Rattle.bpg_format.proofs.RuleLaws.{loop-reads, loop-read}
use Rattle.bpg_bytes.specs.declared.position.BytePos.{BytePos}
use Rattle.bpg_bytes.specs.declared.position.Located.{Located}
use Rattle.bpg_format.specs.declared.record.Entry.{Entry}
use Rattle.bpg_read_entries.specs.Entries.{EntryHead, entry_start, entry_control, entry_head_answer}

-- ---- the start of an entry

module _ (region : List ℕ) (p : ℕ) where
  abbrev number_in : ℕ → Outcome (ℕ × ℕ)
  number_in q = located ((ue7 32).decode q q (drop q region))

  -- over the two numbers and the offsets after them
  pub start-chain : entry_start p (drop p region)
      ≡ (number_in p >>= λ tag.
      number_in tag.1 >>= λ size.
      guard (leb size.0 (length region - size.1)) 2 tag.1 >>= λ _.
      ok (decoded (record { tag = tag.0; size = size.0 }) size.1 (drop size.1 region)))
  unfolding entry_start
  start-chain =
      step_at (ue7-advances 32) region p p _ _ λ tag q.
      step_at (ue7-advances 32) region q q _ _ λ size r.
      rw length-drop

  module _ (tag size : Located ℕ BytePos) (h : p ≤ length region) (t : ok (tag.value, tag.next.0) ≡ number_in p)
      (z : ok (size.value, size.next.0) ≡ number_in tag.next.0) where
    pub start_in_region : size.next.0 ≤ length region
    start_in_region =
        within (ue7-advances 32) region tag.next.0 tag.next.0
        (within (ue7-advances 32) region p p h _ (value_read (ue7-advances 32) region p tag t)) _
        (value_read (ue7-advances 32) region tag.next.0 size z)

-- ---- loop numbers

-- they are the same wherever the payload stands
loop-anywhere : (p : ℕ) (l : List ℕ) → All Byte l → (x : AnimationControl) → read_animation p l ≡ ok x → x ≡ animation_from (read_animation 0 l)
loop-anywhere p l b x d = let v = loop-read l b p x d in ap animation_from (sym (loop-reads l x v.0 v.1 0))

-- `seen`: an entry with tag 5 stands before that at p
module _ (seen : Bool) (p start : ℕ) (l : List ℕ) where
  control-read : All Byte l → (x : AnimationControl) → ok x ≡ entry_control seen p start l → (seen ≡ false) × (x ≡ animation_from (read_animation 0 l))
  control-read b x k = by seen (read_animation start l) refl k
    where
      by : (s : Bool) (m : Outcome AnimationControl) → read_animation start l ≡ m → ok x ≡ (guard (not s) 13 p >>= λ _. m)
          → (s ≡ false) × (x ≡ animation_from (read_animation 0 l))
      by true m d k = absurd (error-not-ok (sym k))
      by false (ok y) d k = (refl, ok-injective k ∙ loop-anywhere start l b y d)
      by false (error t o) d k = absurd (error-not-ok (sym k))

-- ---- an entry, after its start

-- a second entry with tag 5 is refused before its numbers are read
once : (s b : Bool) (p : ℕ) {X : Type 0} (m n : Outcome AnimationControl) (k : AnimationControl → Outcome X)
    → (guard (not (s && b)) 13 p >>= λ _. select b m n >>= k) ≡ (select b (guard (not s) 13 p >>= λ _. m) n >>= k)
unfolding select
once true true p m n k = refl
once true false p m n k = refl
once false b p m n k = refl

abbrev entered : Bool → ℕ → Decoded ℕ EntryHead → Outcome (Decoded ℕ Extension)
entered seen p x =
    let payload = take x.value.size x.rest in
    select (eqb x.value.tag 5) (entry_control seen p x.next payload) (ok no_animation) >>= λ _.
    ok (decoded (record { tag = x.value.tag; payload = payload }) (x.next + x.value.size) (drop x.value.size x.rest))

entry-steps : (seen : Bool) (p : ℕ) (l : List ℕ) → read_entry seen p l ≡ (entry_start p l >>= entered seen p)
unfolding read_entry entry_start
entry-steps seen p l = simp (once, bind_assoc)

-- the entry that a step found, as it is read from the region
abbrev payload_of : List ℕ → Entry → List ℕ
payload_of region t = take t.payload.length (drop t.payload.start region)

abbrev pub entry_of : List ℕ → Located Entry BytePos → Decoded ℕ Extension
entry_of region t = decoded (record { tag = t.value.tag; payload = payload_of region t.value }) t.next.0 (drop t.next.0 region)

-- it lies in the region
pub record Started (region : List ℕ) (p : ℕ) (t : Located Entry BytePos) : Type 0 where
  pub is : entry_start p (drop p region)
      ≡ ok (decoded (record { tag = t.value.tag; size = t.value.payload.length }) t.value.payload.start (drop t.value.payload.start region))
  pub at : t.value.tag_offset ≡ p
  pub next : t.next.0 ≡ t.value.payload.start + t.value.payload.length
  pub inside : t.next.0 ≤ length region

start-inside : (region : List ℕ) (p : ℕ) (x : Decoded ℕ EntryHead) → p ≤ length region → entry_start p (drop p region) ≡ ok x
    → (x.rest ≡ drop x.next region) × (x.next + x.value.size ≤ length region)
unfolding entry_start
start-inside region p x h e =
    unbind ((ue7 32).decode p p (drop p region)) _ e λ tag e1 e2.
    unbind ((ue7 32).decode tag.next tag.next tag.rest) _ e2 λ size e3 e4.
    unguard (leb size.value (length size.rest)) 2 tag.next _ e4 λ room e5.
    let d = subst (λ (l : List ℕ). (ue7 32).decode tag.next tag.next l ≡ ok size) (left_after (ue7-advances 32) region p p tag e1) e3 in
    let left = left_after (ue7-advances 32) region tag.next tag.next size d in
    let start = within (ue7-advances 32) region tag.next tag.next (within (ue7-advances 32) region p p h tag e1) size d in
    subst (λ (y : Decoded ℕ EntryHead). (y.rest ≡ drop y.next region) × (y.next + y.value.size ≤ length region)) (ok-injective e5)
    (left, omega (arith, start, leb→le size.value (length size.rest) room, ap length left, length-drop size.next region))

module _ (region : List ℕ) (seen : Bool) (p : ℕ) where
  abbrev entry : Outcome (Decoded ℕ Extension)
  entry = read_entry seen p (drop p region)

  abbrev step : Outcome (Decoded ℕ EntryHead)
  step = entry_start p (drop p region)

  pub step-refused : (s o : ℕ) → error s o ≡ entry_head_answer p step → entry ≡ error s o
  step-refused s o e = entry-steps seen p (drop p region) ∙ by step e
    where
      by : (m : Outcome (Decoded ℕ EntryHead)) → error s o ≡ entry_head_answer p m → (m >>= entered seen p) ≡ error s o
      by (ok x) e = absurd (error-not-ok e)
      by (error s1 o1) e = cc

  pub step-started : (t : Located Entry BytePos) → ok t ≡ entry_head_answer p step → p ≤ length region → Started region p t
  step-started t e h = by step refl e
    where
      by : (m : Outcome (Decoded ℕ EntryHead)) → step ≡ m → ok t ≡ entry_head_answer p m → Started region p t
      by (ok x) d e =
          let i = start-inside region p x h d in
          subst (Started region p) (sym (ok-injective e))
          (record { is = d ∙ ap (λ (l : List ℕ). ok (decoded x.value x.next l)) i.0; at = refl; next = refl; inside = i.1 })
      by (error s o) d e = absurd (error-not-ok (sym e))

  module _ (t : Located Entry BytePos) (s : Started region p t) where
    abbrev start : ℕ
    start = t.value.payload.start

    abbrev bytes : List ℕ
    bytes = payload_of region t.value

    entry-is : entry
        ≡ (select (eqb t.value.tag 5) (entry_control seen p start bytes) (ok no_animation) >>= λ _. ok (entry_of region t))
    entry-is = rw (entry-steps seen p (drop p region), s.is, drop-drop, s.next)

    pub plain-read : t.value.tag ≢ 5 → entry ≡ ok (entry_of region t)
    plain-read n = entry-is ∙ rw (ne_eqb t.value.tag 5 n, select-false)

    -- with tag 5, by what is read in the region up to the payload's end
    module _ (e : t.value.tag ≡ 5) where
      abbrev numbers : Outcome AnimationControl
      numbers = entry_control seen p start (drop start (take t.next.0 region))

      same : numbers ≡ entry_control seen p start bytes
      same = rw (s.next, ← take-drop t.value.payload.length start region)

      with-numbers : entry ≡ (numbers >>= λ _. ok (entry_of region t))
      with-numbers = entry-is ∙ rw (eq-eqb t.value.tag 5 e, select-true) (ap (λ (m : Outcome AnimationControl). m >>= λ _. ok (entry_of region t)) (sym same))

      pub numbers-refused : (r o : ℕ) → error r o ≡ numbers → entry ≡ error r o
      numbers-refused r o k = with-numbers ∙ rw (← k)

      pub numbers-read : All Byte region → (x : AnimationControl) → ok x ≡ numbers → (entry ≡ ok (entry_of region t)) × (seen ≡ false) × (x ≡ animation_from (read_animation 0 bytes))
      numbers-read b x k =
          let l = control-read seen p start bytes (all_take Byte t.value.payload.length (drop start region) (all_drop Byte start region b)) x (k ∙ same) in
          (with-numbers ∙ rw (← k), l.0, l.1)
