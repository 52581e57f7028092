-- A content with payloads replaced: it keeps the rules, and has the same record; and its file is the file edited in place.
use mathlib.Core.Path.{◌≡◌, refl, sym, ap, ap₂, ◌∙◌, subst}
use mathlib.Core.Bool.{true, false}
use mathlib.Core.List.{List, [], ◌∷◌, ◌++◌}
use Prim.Native.Nat.{ℕ, ◌+◌, ◌-◌, ◌≤◌, ◌<◌}
use native.Mathlib.Omega.{arith}
use lib.ListN.{length, take, drop, get_or, length-append, length-drop, take-append-drop, get_or-map}
use lib.Seq.{get_or-drop, take-append_seam, drop-append_seam}
use Rattle.bpg_codec.specs.Lawful.{Byte}
use Rattle.bpg_codec.proofs.Tokens.{all_drop}
use Rattle.bpg_format.specs.Limits.{max_entries, max_file}
use Rattle.bpg_format.specs.declared.record.Entry.{Entry}
use Rattle.bpg_format.specs.declared.answer.Reading.{Reading}
use Rattle.bpg_format.specs.Zero.{zero_entry}
use Rattle.bpg_format.specs.Content.{Extension, Content}
use Rattle.bpg_format.specs.Syntax.{block_bytes, headers_and_data, data_length, file_of}
use Rattle.bpg_format.specs.Rules.{has_animation, no_animation, Rules, Accepted}
use Rattle.bpg_format.specs.Records.{entries_at, extension_length_start, block_start, data_start, record_of, extension_of, used_entries, content_of}
use Rattle.bpg_format.specs.Parts.{record_in, entry_of}
use Rattle.bpg_format.specs.Requirements.{no_extension}
use Rattle.bpg_format.proofs.RecordLaws.{head_bytes, before_entries, file-entries, before-length, used-entries}
use Rattle.bpg_format.proofs.Requirements.{reading}
use Rattle.bpg_payload_edits.specs.Edits.{InChosen, AgreeOutside, EditedInPlace}
use Rattle.bpg_payload_edits.proofs.Agreement.{same-part, same-seam}
use Rattle.bpg_payload_edits.proofs.EntryEdits.{NoControl, AllReplaced, same_count, same_size, same_entries, same-control, still_one, still-rules}
use Rattle.bpg_payload_edits.proofs.BlockEdits.{after-start, block-agrees, block-rebuilt}

-- c with other entries
abbrev pub with_entries : Content → List Extension → Content
with_entries c xs =
    record {
      flags = c.flags;
      width = c.width;
      height = c.height;
      explicit_length = c.explicit_length;
      extensions = xs;
      control = c.control;
      alpha_header = c.alpha_header;
      color_header = c.color_header;
      hevc_data = c.hevc_data;
    }

-- ---- the entries that reading gives are the content's

module _ (c : Content) (r : Rules c) where
  pub the-entries : used_entries (record_in (file_of c)) ≡ entries_at (block_start c) c.extensions
  unfolding record_of
  the-entries = ap (λ (x : Reading). used_entries x.«record») (reading.the-answer c r) ∙ used-entries (block_start c) c.extensions

  pub the-tag : (k : ℕ) → (entry_of (file_of c) k).tag ≡ (get_or c.extensions k no_extension).tag
  unfolding entry_of content_of
  the-tag k =
      let es = used_entries (record_in (file_of c)) in
      ap (λ (e : Extension). e.tag) (sym (get_or-map (extension_of (file_of c)) es k zero_entry) ∙ ap (λ (x : Content). get_or x.extensions k no_extension) (reading.the-content c r))

-- ---- entries replaced

none : (xs : List Extension) → length xs ≡ 0 → xs ≡ []
none [] h = refl
none (x ∷ xs) h = absurd (omega arith)

module _ (chosen : ℕ → Type 0) (c : Content) (r : Rules c) (xs : List Extension) (a : AllReplaced chosen c.extensions xs) where
  abbrev es : List Extension
  es = c.extensions

  abbrev d : Content
  d = with_entries c xs

  block_size : length (block_bytes xs) ≡ length (block_bytes c.extensions)
  block_size = same_size chosen es xs a

  same-before : before_entries (with_entries c xs) ≡ before_entries c
  unfolding head_bytes before_entries data_length headers_and_data
  same-before = rw block_size

  still-absent : c.flags.extension_present ≡ false → xs ≡ []
  still-absent h = none xs (same_count chosen es xs a ∙ ap length (r.absent-block h))

  same_body : headers_and_data (with_entries c xs) ≡ headers_and_data c
  unfolding headers_and_data
  same_body = refl

  pub file-edited : file_of (with_entries c xs) ≡ before_entries c ++ (block_bytes xs ++ headers_and_data c)
  file-edited = file-entries d still-absent ∙ ap₂ (λ (b l : List ℕ). b ++ (block_bytes xs ++ l)) same-before same_body

  file-is : file_of c ≡ before_entries c ++ (block_bytes c.extensions ++ headers_and_data c)
  file-is = file-entries c r.absent-block

  pub file-as-long : length (file_of (with_entries c xs)) ≡ length (file_of c)
  file-as-long =
      let b = before_entries c in
      let rest = headers_and_data c in
      ap length file-edited ∙ length-append b (block_bytes xs ++ rest)
      ∙ omega (arith, length-append (block_bytes xs) rest, length-append (block_bytes es) rest, length-append b (block_bytes es ++ rest), block_size, ap length file-is)

  -- ---- the rules

  pub edited-rules : NoControl chosen c.extensions → Rules (with_entries c xs)
  edited-rules free =
      let absent : c.flags.extension_present ≡ false → xs ≡ [] = still-absent in
      let limit : length xs ≤ max_entries = omega (arith, same_count chosen es xs a, r.entry-limit) in
      let control = same-control chosen es xs a in
      let no-animation : has_animation xs ≡ false → c.control ≡ no_animation = λ h. r.no-animation (sym control ∙ h) in
      let animated : c.flags.animation ≡ true → has_animation xs ≡ true = λ h. control ∙ r.animated h in
      let size : length (file_of (with_entries c xs)) ≤ max_file = omega (arith, file-as-long, r.size) in
      let entries = still-rules chosen c.control es xs a free r.entries in
      let one = still_one chosen es xs a r.one-animation in
      search (r.gray, r.width-not-zero, r.height-not-zero, r.no-alpha, r.alpha-header)

  -- ---- the record

  same_start : block_start (with_entries c xs) ≡ block_start c
  unfolding extension_length_start block_start data_length headers_and_data
  same_start = rw block_size

  same-data : data_start (with_entries c xs) ≡ data_start c
  unfolding data_start
  same-data = rw (same_start, block_size)

  pub same-record : record_of (with_entries c xs) ≡ record_of c
  unfolding record_of
  same-record = rw (same_start, same-data, same_entries chosen es xs a (block_start c), same_count chosen es xs a)

  -- ---- the bytes

  pub files-agree : AgreeOutside chosen (file_of c) (file_of (with_entries c xs))
  files-agree offset h out =
      let b = length (before_entries c) in
      let entries = the-entries c r in
      ap (λ (l : List ℕ). get_or l offset 0) file-edited
      ∙ same-seam (before_entries c) (before_entries c) _ _ offset refl (λ _. refl)
      (λ past.
      let at : block_start c + (offset - b) ≡ offset = omega (arith, before-length c) in
      block-agrees chosen es xs a (block_start c) (headers_and_data c) (offset - b)
      λ i. out (subst (λ (es : List Entry). InChosen chosen es offset) (sym entries) (subst (InChosen chosen (entries_at (block_start c) es)) at i)))
      ∙ ap (λ (l : List ℕ). get_or l offset 0) (sym file-is)

-- ---- a file edited in place

module _ (chosen : ℕ → Type 0) (c : Content) (r : Rules c) (g : List ℕ) (e : EditedInPlace chosen (file_of c) g) where
  no-control : NoControl chosen c.extensions
  no-control k h t = e.not-animation k h (the-tag c r k ∙ t)

  abbrev b : List ℕ
  b = before_entries c

  abbrev x : List ℕ
  x = block_bytes c.extensions ++ headers_and_data c

  is : file_of c ≡ before_entries c ++ (block_bytes c.extensions ++ headers_and_data c)
  is = file-entries c r.absent-block

  size : length g ≡ length (before_entries c) + length (block_bytes c.extensions ++ headers_and_data c)
  size = e.as_long ∙ ap length is ∙ length-append b x

  -- outside the payloads by their offsets in the content
  agree : (i : ℕ) → i < length g → (InChosen chosen (entries_at (block_start c) c.extensions) i → ⊥) → get_or g i 0 ≡ get_or (b ++ x) i 0
  agree i h out =
      e.outside i (omega (arith, e.as_long)) (λ k. out (subst (λ (es : List Entry). InChosen chosen es i) (the-entries c r) k))
      ∙ ap (λ (l : List ℕ). get_or l i 0) is

  front : take (length (before_entries c)) g ≡ before_entries c
  front =
      same-part (b ++ x) g 0 (length b) (omega (arith, length-append b x)) (size ∙ sym (length-append b x))
      (λ i _ h. agree i (omega (arith, size)) λ k. omega (arith, after-start c.extensions (block_start c) k.index i k.inside, before-length c))
      ∙ take-append_seam b x

  back-agrees : (i : ℕ) → i < length (drop (length b) g) → (InChosen chosen (entries_at (block_start c) c.extensions) (block_start c + i) → ⊥)
      → get_or (drop (length b) g) i 0 ≡ get_or x i 0
  back-agrees i h out =
      get_or-drop (length b) g i 0
      ∙ agree (length b + i) (omega (arith, length-drop (length b) g)) (subst (λ (n : ℕ). InChosen chosen (entries_at (block_start c) c.extensions) (n + i) → ⊥) (sym (before-length c)) out)
      ∙ sym (get_or-drop (length b) (b ++ x) i 0) ∙ ap (λ (l : List ℕ). get_or l i 0) (drop-append_seam b x)

  -- it is the file of a content with payloads replaced
  edited-content : (xs : List Extension) × AllReplaced chosen c.extensions xs × (g ≡ file_of (with_entries c xs))
  edited-content =
      let k = block-rebuilt chosen c.extensions (block_start c) (headers_and_data c) (drop (length b) g)
      (length-drop (length b) g ∙ omega (arith, size)) (all_drop Byte (length b) g e.bytes) back-agrees in
      (k.0, k.1, sym (take-append-drop (length b) g) ∙ ap₂ ◌++◌ front k.2 ∙ sym (file-edited chosen c r k.0 k.1))

-- so what holds of contents with payloads replaced holds of files edited in place
pub by-contents : (chosen : ℕ → Type 0) (P : Content → List ℕ → List ℕ → Type 0)
    → ((c : Content) → Rules c → (xs : List Extension) → AllReplaced chosen c.extensions xs → NoControl chosen c.extensions → P c (file_of c) (file_of (with_entries c xs)))
    → (f g : List ℕ) (a : Accepted f) → EditedInPlace chosen f g → P a.0 f g
by-contents chosen P holds f g a e =
    let c = a.0 in
    let r = a.1 in
    let i = subst (λ (l : List ℕ). EditedInPlace chosen l g) a.2 e in
    let x = edited-content chosen c r g i in
    subst (λ (l : List ℕ). P c l g) (sym a.2) (subst (P c (file_of c)) (sym x.2) (holds c r x.0 x.1 (no-control chosen c r g i)))
