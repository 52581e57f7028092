-- A walk over the entries of an accepted file, which reads them again one by one.
use mathlib.Core.Path.{◌≡◌, refl, sym, ap, ap₂, ◌∙◌, subst}
use mathlib.Core.List.{List, [], ◌∷◌, ◌++◌}
use Prim.Native.Nat.{ℕ, ◌+◌, ◌-◌, ◌^◌, ◌≤◌, ◌<◌}
use native.Mathlib.Numerals.{add-one}
use native.Mathlib.Omega.{arith}
use lib.ListN.{length, take, drop, get_or, length-append, length-take}
use lib.Seq.{length-take-le, take-suc, take_all, drop-cons, take-append_seam, take-append-add, drop-append_seam}
use Rattle.bpg_codec.specs.Outcome.{ok}
use Rattle.bpg_codec.proofs.Outcome.{ok-injective}
use Rattle.bpg_ue7.specs.Ue7.{ue7_bytes}
use Rattle.bpg_format.specs.Limits.{max_entries}
use Rattle.bpg_format.specs.declared.record.Entry.{Entry}
use Rattle.bpg_format.specs.Content.{Extension, Content}
use Rattle.bpg_format.specs.Syntax.{extension_bytes, block_bytes, headers_and_data}
use Rattle.bpg_format.specs.Read.{Head, read_content}
use Rattle.bpg_format.specs.Records.{entries_at}
use Rattle.bpg_format.proofs.RecordLaws.{before_entries, file-entries, before-length, entries-length}
use Rattle.bpg_read_head.specs.declared.head.Head.{Head as PlacedHead}
use Rattle.std.specs.Prelude.{Result, Ok, Err, IsOk}
use Rattle.bpg_codec.proofs.Outcome.{error-not-ok}
use Rattle.bpg_bytes.specs.declared.position.BytePos.{BytePos}
use Rattle.bpg_bytes.specs.declared.position.Located.{Located}
use Rattle.bpg_refusal.specs.declared.Refusal.{Refusal}
use Rattle.bpg_refusal.specs.Outcomes.{outcome}
use Rattle.bpg_read_entries.specs.Entries.{found_entry, entry_head_answer, entry_in}
use Rattle.bpg_read_entries.proofs.LastEntry.{entries-snoc, bytes-snoc}
use Rattle.bpg_read_entries.proofs.Ahead.{Ahead, tags-fit, small, entry-ahead, past, more-ahead}
use Rattle.bpg_read_survey.specs.declared.rest.RestSurvey.{RestSurvey}
use Rattle.bpg_read_survey.proofs.FileRead.{FileRead, starts, counted, short}

-- k of the entries, which begin at p, were passed; the next begins at `next`, and all lie before `end`
pub record Walking (file : List ℕ) (count end p next k : ℕ) : Type 0 where
  pub content : Content
  pub read : read_content file ≡ ok content
  pub all : count ≡ length content.extensions
  pub few : count ≤ max_entries
  pub most : k ≤ count
  pub at : next ≡ p + length (block_bytes (take k content.extensions))
  pub ahead : Ahead (take end file) next (drop k content.extensions)

-- of what stands before the block, the block and what follows, the first two
kept : (before block rest : List ℕ) → take (length before + length block) (before ++ (block ++ rest)) ≡ before ++ block
kept before block rest = take-append-add before (block ++ rest) (length block) ∙ ap (λ (l : List ℕ). before ++ l) (take-append_seam block rest)

module _ {file : List ℕ} {head : PlacedHead} {s : RestSurvey} (f : FileRead file head s) where
  abbrev c : Content
  c = f.content

  abbrev end : ℕ
  end = head.end.0 + head.extension_length

  block-length : head.extension_length ≡ length (block_bytes c.extensions)
  block-length = ap (λ (h : Head). h.extension_length) f.heads

  region-is : take end file ≡ before_entries c ++ block_bytes c.extensions
  region-is =
      let n : end ≡ length (before_entries c) + length (block_bytes c.extensions) = omega (arith, block-length, before-length c, starts f) in
      ap₂ take n (f.is ∙ file-entries c f.rules.absent-block) ∙ kept (before_entries c) (block_bytes c.extensions) (headers_and_data c)

  block-left : drop head.end.0 (take end file) ≡ block_bytes c.extensions
  block-left = ap₂ drop (sym (before-length c ∙ starts f)) region-is ∙ drop-append_seam (before_entries c) (block_bytes c.extensions)

  pub end-inside : end ≤ length file
  end-inside =
      omega (
        arith,
        block-length,
        before-length c,
        starts f,
        ap length (f.is ∙ file-entries c f.rules.absent-block),
        length-append (before_entries c) (block_bytes c.extensions ++ headers_and_data c),
        length-append (block_bytes c.extensions) (headers_and_data c),
      )

  pub begins : Walking file s.block.entry_count end head.end.0 head.end.0 0
  begins =
      record {
        content = c;
        read = f.read;
        all = counted f;
        few = omega (arith, counted f, f.rules.entry-limit);
        most = omega arith;
        at = omega arith;
        ahead = record { short = omega (arith, length-take end file, short f); left = block-left; fit = tags-fit c.control c.extensions f.rules.entries };
      }

module _ {file : List ℕ} {count end p next k : ℕ} (v : Walking file count end p next k) where
  abbrev es : List Extension
  es = v.content.extensions

  -- the entries that were passed
  abbrev pub passed : List Entry
  passed = entries_at p (take k es)

  module _ (h : k < count) where
    x : Extension
    x = get_or es k (record { tag = 0; payload = [] })

    inside : k < length es
    inside = omega (arith, v.all)

    taken : take (k + 1) es ≡ take k es ++ (x ∷ [])
    unfolding x
    taken = ap (λ (n : ℕ). take n es) (add-one k) ∙ take-suc es k (record { tag = 0; payload = [] }) inside

    here : Ahead (take end file) next (x ∷ drop (k + 1) es)
    unfolding x
    here =
        subst (Ahead (take end file) next) (drop-cons es k (record { tag = 0; payload = [] }) inside ∙ ap (λ (n : ℕ). x ∷ drop n es) (sym (add-one k))) v.ahead

    abbrev start : ℕ
    start = next + length (ue7_bytes x.tag) + length (ue7_bytes (length x.payload))

    there : entry_head_answer next (entry_in (take end file) next) ≡ ok (found_entry next x.tag start (length x.payload))
    there = ap (entry_head_answer next) (entry-ahead (take end file) next x (drop (k + 1) es) here)

    -- so it is read
    pub entry_reads : (r : Result (Located Entry BytePos) Refusal) → outcome (λ y. y) r ≡ entry_head_answer next (entry_in (take end file) next) → IsOk r
    entry_reads (Ok t) e = refl
    entry_reads (Err r) e = absurd (error-not-ok (e ∙ there))

    pub passed-count : length passed ≡ k
    passed-count = entries-length p (take k es) ∙ length-take-le k es (omega (arith, inside))

    module _ (r : Result (Located Entry BytePos) Refusal) (read : outcome (λ y. y) r ≡ entry_head_answer next (entry_in (take end file) next))
        (t : Located Entry BytePos) (is : r ≡ Ok t) where
      found : t ≡ found_entry next x.tag start (length x.payload)
      found = ok-injective (ap (outcome (λ y. y)) (sym is) ∙ read ∙ there)

      -- its range by where it ends, and its tag's offset by where it begins
      pub ends-inside : t.value.payload.length ≤ t.next.0
      ends-inside = omega (arith, ap (λ (y : Located Entry BytePos). y.next.0) found, ap (λ (y : Located Entry BytePos). y.value.payload.length) found)

      pub length-small : t.value.payload.length < 2 ^ 32
      length-small = omega (arith, small (take end file) next x (drop (k + 1) es) here, ap (λ (y : Located Entry BytePos). y.value.payload.length) found)

      pub start_is : t.value.payload.start ≡ t.next.0 - t.value.payload.length
      start_is =
          omega (
            arith,
            ap (λ (y : Located Entry BytePos). y.next.0) found,
            ap (λ (y : Located Entry BytePos). y.value.payload.start) found,
            ap (λ (y : Located Entry BytePos). y.value.payload.length) found,
          )

      pub tag-offset-is : t.value.tag_offset ≡ next
      tag-offset-is = ap (λ (y : Located Entry BytePos). y.value.tag_offset) found

      next-is : t.next.0 ≡ next + length (extension_bytes x)
      next-is = ap (λ (y : Located Entry BytePos). y.next.0) found ∙ past (take end file) next x (drop (k + 1) es) here

      at_next : t.next.0 ≡ p + length (block_bytes (take (k + 1) es))
      at_next = omega (arith, next-is, v.at, bytes-snoc x (take k es), ap (λ (l : List Extension). length (block_bytes l)) taken)

      entry-is : t.value ∷ [] ≡ entries_at (p + length (block_bytes (take k es))) (x ∷ [])
      entry-is = ap (λ (y : Located Entry BytePos). y.value ∷ []) found ∙ ap (λ (q : ℕ). entries_at q (x ∷ [])) v.at

      pub walks : Walking file count end p t.next.0 (k + 1)
      walks =
          record {
            content = v.content;
            read = v.read;
            all = v.all;
            few = v.few;
            most = omega arith;
            at = at_next;
            ahead = subst (λ (q : ℕ). Ahead (take end file) q (drop (k + 1) es)) (sym next-is) (more-ahead (take end file) next x (drop (k + 1) es) here);
          }

      -- the entry that was read is the next of those that were passed
      pub passed-next : entries_at p (take (k + 1) walks.content.extensions) ≡ passed ++ (t.value ∷ [])
      unfolding walks
      passed-next = ap (entries_at p) taken ∙ entries-snoc x (take k es) p ∙ ap (λ (l : List Entry). passed ++ l) (sym entry-is)

  -- all were passed
  pub walked : count ≤ k → (c : Content) → read_content file ≡ ok c → passed ≡ entries_at p c.extensions
  walked h c e = ap (entries_at p) (take_all k es (omega (arith, v.all)) ∙ ap (λ (d : Content). d.extensions) (ok-injective (sym v.read ∙ e)))
