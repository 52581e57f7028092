-- Reading the entries of a block one after another.
use mathlib.Core.Path.{◌≡◌, refl, sym, ap, ◌∙◌}
use mathlib.Core.Bool.{Bool, true, false, ◌||◌, or-false, or-true}
use mathlib.Core.Logic.{◌≢◌}
use mathlib.Core.List.{List, [], ◌∷◌, ◌++◌, append_assoc, append-nil}
use Prim.Native.Nat.{ℕ, zero, suc, ◌+◌, ◌-◌, ◌≤◌, ◌<◌}
use native.Mathlib.Omega.{arith}
use lib.ListN.{length, drop, length-append, length-drop, drop_of_length-le}
use borrow.Author.Tests.{eqb-true, le-leb, lt-leb, eq-eqb, ne_eqb}
use Rattle.bpg_codec.specs.Outcome.{Outcome, ok, error, ◌>>=◌, Decoded}
use Rattle.bpg_codec.specs.Lawful.{All, Byte}
use Rattle.bpg_codec.proofs.Outcome.{bind_assoc}
use Rattle.bpg_codec.specs.Select.{select}
use Rattle.bpg_codec.proofs.Select.{select-true, select-false}
use Rattle.bpg_codec.proofs.Tokens.{all_drop}
use Rattle.bpg_format.specs.Limits.{max_entries, max_file}
use Rattle.bpg_format.specs.Content.{Extension, AnimationControl}
use Rattle.bpg_format.specs.Syntax.{extension_bytes, block_bytes}
use Rattle.bpg_format.specs.Rules.{is_animation, has_animation}
use Rattle.bpg_format.specs.Read.{read_animation, animation_from, animation_of, read_entry, read_entries}
use Rattle.bpg_format.proofs.FileLaws.{extension-lawful}
use Rattle.bpg_format.proofs.SyntaxLaws.{extension-encode}
use Rattle.bpg_format.proofs.Chain.{entry-chain}
use Rattle.bpg_read_animation.specs.declared.animation.Animation.{Animation}
use Rattle.bpg_bytes.specs.declared.position.BytePos.{BytePos}
use Rattle.bpg_bytes.specs.declared.position.Located.{Located}
use Rattle.bpg_format.specs.declared.record.Entry.{Entry}
use Rattle.std.specs.Prelude.{Option, Some, None, is_some}
use Rattle.bpg_read_entries.specs.declared.block.Block.{Block}
use Rattle.bpg_read_animation.specs.Animations.{animation_control, animation_of_control}
use Rattle.bpg_read_entries.specs.Blocks.{block_of, block_answer, entries_in}
use Rattle.bpg_read_entries.proofs.EntryLaws.{Started, entry_of}
use Rattle.bpg_read_entries.proofs.LastEntry.{bytes-snoc, has-snoc, loop-snoc}

-- ---- the reading, one entry at a time

module _ (seen : Bool) (p : ℕ) where
  entries-end : (m : ℕ) → read_entries m seen p [] ≡ ok []
  unfolding read_entries
  entries-end zero = refl
  entries-end (suc m) = refl

  entries-full : (l : List ℕ) → 0 < length l → read_entries 0 seen p l ≡ error 11 p
  unfolding read_entries
  entries-full [] h = absurd (omega arith)
  entries-full (x ∷ l) h = refl

  entries-step : (m : ℕ) (l : List ℕ) → 0 < length l
      → read_entries (suc m) seen p l ≡ (read_entry seen p l >>= λ e. read_entries m (seen || is_animation e.value) e.next e.rest >>= λ es. ok (e.value ∷ es))
  unfolding read_entries
  entries-step m [] h = absurd (omega arith)
  entries-step m (x ∷ l) h = refl

-- ---- the loop

chosen : {A : Type 0} (b : Bool) (a : A) → is_some (select b (Some a) None) ≡ b
unfolding select
chosen true a = refl
chosen false a = refl

-- `done` was read from p on, and counts in the block; from `next` on the rest is read
pub record ReadSoFar (region : List ℕ) (p : ℕ) (block : Block) (next : ℕ) : Type 0 where
  pub done : List Extension
  pub is : block ≡ block_of done
  pub few : length done ≤ max_entries
  pub at : next ≡ p + length (block_bytes done)
  pub rest : read_entries max_entries false p (drop p region)
      ≡ (read_entries (max_entries - length done) (has_animation done) next (drop next region) >>= λ es. ok (done ++ es))

nothing : {A : Type 0} (m : Outcome (List A)) → m ≡ (m >>= λ es. ok ([] ++ es))
nothing (ok es) = refl
nothing (error s o) = refl

pub begins : (region : List ℕ) (p : ℕ) → ReadSoFar region p (record { entry_count = 0; animation = None }) p
unfolding select
begins region p = record { done = []; is = refl; few = omega arith; at = omega arith; rest = nothing (read_entries max_entries false p (drop p region)) }

module _ (region : List ℕ) (p : ℕ) (block : Block) (next : ℕ) (inv : ReadSoFar region p block next) where
  abbrev all : Outcome (List Extension)
  all = read_entries max_entries false p (drop p region)

  count : block.entry_count ≡ length inv.done
  count = ap (λ (b : Block). b.entry_count) inv.is

  pub count_most : block.entry_count ≤ max_entries
  count_most = omega (arith, count, inv.few)

  abbrev animated : Bool
  animated = is_some block.animation

  seen : animated ≡ has_animation inv.done
  seen = ap (λ (b : Block). is_some b.animation) inv.is ∙ chosen (has_animation inv.done) _

  all_done : length region ≤ next → all ≡ ok inv.done
  all_done h = inv.rest ∙ rw (drop_of_length-le region h, entries-end (has_animation inv.done) next (max_entries - length inv.done), append-nil)

  pub ends : length region ≤ next → ok block ≡ block_answer all
  ends h = ap ok inv.is ∙ ap block_answer (sym (all_done h))

  module _ (h : next < length region) where
    some : 0 < length (drop next region)
    some = omega (arith, length-drop next region)

    all-full : max_entries ≤ block.entry_count → all ≡ error 11 next
    all-full k =
        let none : max_entries - length inv.done ≡ 0 = omega (arith, count) in
        inv.rest ∙ rw (none, entries-full (has_animation inv.done) next (drop next region) some)

    pub full : max_entries ≤ block.entry_count → error 11 next ≡ block_answer all
    full k = ap block_answer (sym (all-full k))

    module _ (k : block.entry_count < max_entries) where
      after : Decoded ℕ Extension → Outcome (List Extension)
      after e = read_entries (max_entries - (length inv.done + 1)) (has_animation inv.done || is_animation e.value) e.next e.rest >>= λ es. ok (inv.done ++ (e.value ∷ es))

      step-seen : all ≡ (read_entry (has_animation inv.done) next (drop next region) >>= after)
      unfolding after
      step-seen =
          let more : max_entries - length inv.done ≡ suc (max_entries - (length inv.done + 1)) = omega (arith, count) in
          inv.rest ∙ rw (more, entries-step (has_animation inv.done) next (max_entries - (length inv.done + 1)) (drop next region) some) (simp bind_assoc)

      step : all ≡ (read_entry animated next (drop next region) >>= after)
      step = step-seen ∙ ap (λ (b : Bool). read_entry b next (drop next region) >>= after) (sym seen)

      pub stops : (s o : ℕ) → read_entry animated next (drop next region) ≡ error s o → error s o ≡ block_answer all
      stops s o e = ap block_answer (sym (step ∙ ap (λ (m : Outcome (Decoded ℕ Extension)). m >>= after) e))

      -- an entry was found and read
      module _ (bytes : All Byte region) (t : Located Entry BytePos) (s : Started region next t)
          (d : read_entry animated next (drop next region) ≡ ok (entry_of region t)) where
        abbrev new : Extension
        new = (entry_of region t).value

        -- it is as long as its bytes
        next-new : t.next.0 ≡ next + length (extension_bytes new)
        next-new =
            ((extension-lawful animated).encodes next next (drop next region) (all_drop Byte next region bytes) (entry_of region t)
            (entry-chain animated next (drop next region) ∙ d)).2
            ∙ ap (λ (l : List ℕ). next + length l) (extension-encode animated new)

        at_new : t.next.0 ≡ p + length (block_bytes (inv.done ++ (new ∷ [])))
        at_new = omega (arith, next-new, inv.at, bytes-snoc new inv.done)

        rest-new : all
            ≡ (read_entries (max_entries - length (inv.done ++ (new ∷ []))) (has_animation (inv.done ++ (new ∷ []))) t.next.0 (drop t.next.0 region) >>= λ es.
            ok ((inv.done ++ (new ∷ [])) ++ es))
        unfolding after
        rest-new =
            step ∙ ap (λ (m : Outcome (Decoded ℕ Extension)). m >>= after) d ∙ rw (length-append, has-snoc new inv.done) (simp append_assoc)

        count-new : block.entry_count + 1 ≡ length (inv.done ++ (new ∷ []))
        count-new = omega (arith, count, length-append inv.done (new ∷ []))

        read-on : (a : Option Animation) → a ≡ (block_of (inv.done ++ (new ∷ []))).animation → ReadSoFar region p (record { entry_count = block.entry_count + 1; animation = a }) t.next.0
        read-on a says =
            record {
              done = inv.done ++ (new ∷ []);
              is = λ z. record { entry_count = count-new z; animation = says z };
              few = omega (arith, count, count-new);
              at = at_new;
              rest = rest-new;
            }

        -- an entry with tag 5 says what is known of the animation; no other does
        pub goes_on : t.value.tag ≢ 5 → ReadSoFar region p (record { entry_count = block.entry_count + 1; animation = block.animation }) t.next.0
        goes_on n =
            let plain = ne_eqb t.value.tag 5 n in
            let same : animation_of (inv.done ++ (new ∷ [])) ≡ animation_of inv.done =
            loop-snoc new inv.done (λ l. absurd (n (eqb-true t.value.tag 5 l))) ∙ rw (plain, select-false) in
            read-on block.animation (rw (has-snoc new inv.done, same, plain, or-false) (ap (λ (b : Block). b.animation) inv.is))

        pub animates : t.value.tag ≡ 5 → animated ≡ false → (a : Animation) → animation_control a ≡ animation_from (read_animation 0 new.payload)
            → ReadSoFar region p (record { entry_count = block.entry_count + 1; animation = Some a }) t.next.0
        animates e first a k =
            let control = eq-eqb t.value.tag 5 e in
            let said : animation_of (inv.done ++ (new ∷ [])) ≡ animation_from (read_animation 0 new.payload) =
            loop-snoc new inv.done (λ _. sym seen ∙ first) ∙ rw (control, select-true) in
            read-on (Some a)
            (rw (has-snoc new inv.done, said, control, or-true, select-true) (ap (λ (x : AnimationControl). Some (animation_of_control x)) k))

-- ---- the region's length

module _ (region : List ℕ) (p : ℕ) where
  pub too_long : max_file < length region → error 1 0 ≡ block_answer (entries_in region p)
  unfolding entries_in
  too_long h = rw (lt-leb _ _ h)

  pub in-region : length region ≤ max_file → read_entries max_entries false p (drop p region) ≡ entries_in region p
  unfolding entries_in
  in-region h = rw (le-leb _ _ h)
