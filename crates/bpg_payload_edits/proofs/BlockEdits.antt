-- Bytes of a block at offsets outside the chosen payloads, and the payloads in it: entries and bytes edited are the same thing.
use mathlib.Core.Path.{◌≡◌, refl, sym, ap, ap₂, ◌∙◌, subst}
use mathlib.Core.List.{List, [], ◌∷◌, ◌++◌, append_assoc}
use Prim.Native.Nat.{ℕ, zero, suc, ◌+◌, ◌-◌, ◌≤◌, ◌<◌}
use native.Mathlib.Omega.{arith}
use lib.ListN.{length, take, drop, get_or, length-append, length-take, length-drop, take-append-drop}
use lib.Seq.{ext_get_or, drop-drop, get_or-drop, take-append_seam, drop-append_seam}
use Rattle.bpg_codec.specs.Lawful.{All, Byte}
use Rattle.bpg_codec.proofs.Tokens.{all_take, all_drop}
use Rattle.bpg_ue7.specs.Ue7.{ue7_bytes}
use Rattle.bpg_format.specs.Zero.{zero_entry}
use Rattle.bpg_format.specs.Content.{Extension}
use Rattle.bpg_format.specs.Syntax.{block_bytes}
use Rattle.bpg_format.specs.Records.{entries_at}
use Rattle.bpg_format.specs.Parts.{Inside}
use Rattle.bpg_payload_edits.specs.Edits.{InChosen}
use Rattle.bpg_payload_edits.proofs.Agreement.{same-part, same-seam}
use Rattle.bpg_payload_edits.proofs.EntryEdits.{AllReplaced}

-- what stands before a payload: the tag and the length
abbrev pub entry_head : Extension → List ℕ
entry_head e = ue7_bytes e.tag ++ ue7_bytes (length e.payload)

-- where the payload of the first entry starts, and ends
abbrev start : (p : ℕ) → Extension → ℕ
start p e = p + length (ue7_bytes e.tag) + length (ue7_bytes (length e.payload))

abbrev end : (p : ℕ) → Extension → ℕ
end p e = start p e + length e.payload

head-length : (e : Extension) → length (entry_head e) ≡ length (ue7_bytes e.tag) + length (ue7_bytes (length e.payload))
head-length e = length-append (ue7_bytes e.tag) (ue7_bytes (length e.payload))

block-is : (e : Extension) (es : List Extension) (rest : List ℕ) → block_bytes (e ∷ es) ++ rest ≡ entry_head e ++ (e.payload ++ (block_bytes es ++ rest))
block-is e es rest = simp append_assoc

-- ---- an offset in a payload lies in the block, after what stands before

nowhere : {P : Type 0} (offset : ℕ) → Inside offset zero_entry.payload → P
nowhere offset i = absurd (omega (arith, i.before-end))

pub after-start : (es : List Extension) (p k offset : ℕ) → Inside offset (get_or (entries_at p es) k zero_entry).payload → p ≤ offset
after-start [] p k offset i = nowhere offset i
after-start (e ∷ es) p zero offset i = omega (arith, i.after-start)
after-start (e ∷ es) p (suc k) offset i = omega (arith, after-start es (end p e) k offset i)

-- before the first payload, in it, and after it
module _ (chosen : ℕ → Type 0) (e : Extension) (es : List Extension) (p offset : ℕ) where
  abbrev In : Type 0
  In = InChosen chosen (entries_at p (e ∷ es)) offset

  abbrev InLater : Type 0
  InLater = InChosen (λ k. chosen (suc k)) (entries_at (end p e) es) offset

  -- of the first entry or of a later one
  in-which : {P : Type 0} → In → (chosen 0 → start p e ≤ offset → offset < end p e → P) → (InLater → end p e ≤ offset → P) → P
  in-which {P} c first later = by c.index c.is-chosen c.inside
    where
      by : (k : ℕ) → chosen k → Inside offset (get_or (entries_at p (e ∷ es)) k zero_entry).payload → P
      by zero h i = first h i.after-start i.before-end
      by (suc k) h i = later (record { index = k; is-chosen = h; inside = i }) (after-start es (end p e) k offset i)

  in-first : chosen 0 → start p e ≤ offset → offset < end p e → In
  in-first h a b = record { index = 0; is-chosen = h; inside = record { after-start = a; before-end = b } }

  in-later : InLater → In
  in-later c = record { index = suc c.index; is-chosen = c.is-chosen; inside = c.inside }

-- ---- from entries to bytes

-- entries replaced leave every byte outside the chosen payloads as it was
pub block-agrees : (chosen : ℕ → Type 0) (es xs : List Extension) → AllReplaced chosen es xs → (p : ℕ) (rest : List ℕ) (i : ℕ)
    → (InChosen chosen (entries_at p es) (p + i) → ⊥) → get_or (block_bytes xs ++ rest) i 0 ≡ get_or (block_bytes es ++ rest) i 0
block-agrees chosen [] [] a p rest i out = refl
block-agrees chosen [] (x ∷ xs) a p rest i out = absurd a
block-agrees chosen (e ∷ es) [] a p rest i out = absurd a
block-agrees chosen (e ∷ es) (x ∷ xs) a p rest i out =
    let r = a.0 in
    let h = length (entry_head e) in
    let n = length e.payload in
    let head : entry_head x ≡ entry_head e = rw (r.tag, r.size) in
    let hl = head-length e in
    ap (λ (l : List ℕ). get_or l i 0) (block-is x xs rest ∙ ap (λ (l : List ℕ). l ++ (x.payload ++ (block_bytes xs ++ rest))) head)
    ∙ same-seam (entry_head e) (entry_head e) _ _ i refl (λ _. refl)
    (λ past. same-seam x.payload e.payload _ _ (i - h) r.size
    (λ inside. ap (λ (l : List ℕ). get_or l (i - h) 0) (r.kept λ c. out (in-first chosen e es p (p + i) c (omega arith) (omega arith))))
    (λ beyond.
    let at : end p e + (i - h - n) ≡ p + i = omega arith in
    block-agrees (λ k. chosen (suc k)) es xs a.1 (end p e) rest (i - h - n)
    (subst (λ (o : ℕ). InChosen (λ k. chosen (suc k)) (entries_at (end p e) es) o → ⊥) (sym at) λ c. out (in-later chosen e es p (p + i) c))))
    ∙ ap (λ (l : List ℕ). get_or l i 0) (sym (block-is e es rest))

-- ---- from bytes to entries

-- y agrees with the entries from p on and what follows them, outside the chosen payloads
abbrev Agrees : (chosen : ℕ → Type 0) (es : List Extension) (p : ℕ) (rest y : List ℕ) → Type 0
Agrees chosen es p rest y = (i : ℕ) → i < length y → (InChosen chosen (entries_at p es) (p + i) → ⊥) → get_or y i 0 ≡ get_or (block_bytes es ++ rest) i 0

module _ (chosen : ℕ → Type 0) (e : Extension) (es : List Extension) (p : ℕ) (rest y : List ℕ)
    (as_long : length y ≡ length (block_bytes (e ∷ es) ++ rest)) (agree : Agrees chosen (e ∷ es) p rest y) where
  abbrev h : ℕ
  h = length (entry_head e)

  abbrev n : ℕ
  n = length e.payload

  abbrev tail : List ℕ
  tail = block_bytes es ++ rest

  abbrev x : List ℕ
  x = block_bytes (e ∷ es) ++ rest

  size : length x ≡ h + n + length tail
  size = ap length (block-is e es rest) ∙ length-append (entry_head e) (e.payload ++ tail) ∙ omega (arith, length-append e.payload tail)

  front : take h y ≡ entry_head e
  front =
      same-part x y 0 h (omega (arith, size)) as_long
      (λ i _ k. agree i (omega (arith, size)) λ c. in-which chosen e es p (p + i) c
      (λ _ a _. omega (arith, head-length e)) (λ _ a. omega (arith, head-length e)))
      ∙ ap (take h) (block-is e es rest) ∙ take-append_seam (entry_head e) (e.payload ++ tail)

  rest-is : drop h x ≡ e.payload ++ tail
  rest-is = ap (drop h) (block-is e es rest) ∙ drop-append_seam (entry_head e) (e.payload ++ tail)

  middle : (chosen 0 → ⊥) → take n (drop h y) ≡ e.payload
  middle k =
      same-part x y h n (omega (arith, size)) as_long
      (λ i a b. agree i (omega (arith, size)) λ c. in-which chosen e es p (p + i) c (λ z _ _. k z) (λ _ a. omega (arith, head-length e)))
      ∙ ap (take n) rest-is ∙ take-append_seam e.payload tail

  middle-size : length (take n (drop h y)) ≡ n
  middle-size = simp (length-take, length-drop) (omega (arith, size))

  back-size : length (drop (h + n) y) ≡ length tail
  back-size = length-drop (h + n) y ∙ omega (arith, size)

  back_is : drop (h + n) x ≡ tail
  back_is = sym (drop-drop n h x) ∙ ap (drop n) rest-is ∙ drop-append_seam e.payload tail

  back-agrees : Agrees (λ k. chosen (suc k)) es (end p e) rest (drop (h + n) y)
  back-agrees i k out =
      let at : p + (h + n + i) ≡ end p e + i = omega (arith, head-length e) in
      get_or-drop (h + n) y i 0
      ∙ agree (h + n + i) (omega (arith, length-drop (h + n) y)) (λ c. in-which chosen e es p (p + (h + n + i)) c
      (λ _ _ b. omega (arith, at)) (λ c _. out (subst (λ (o : ℕ). InChosen (λ k. chosen (suc k)) (entries_at (end p e) es) o) at c)))
      ∙ sym (get_or-drop (h + n) x i 0) ∙ ap (λ (l : List ℕ). get_or l i 0) back_is

  whole : y ≡ entry_head e ++ (take n (drop h y) ++ drop (h + n) y)
  whole =
      sym (take-append-drop h y)
      ∙ ap₂ ◌++◌ front (sym (take-append-drop n (drop h y)) ∙ ap (λ (l : List ℕ). take n (drop h y) ++ l) (drop-drop n h y))

-- bytes that agree outside the chosen payloads are those of entries replaced
pub block-rebuilt : (chosen : ℕ → Type 0) (es : List Extension) (p : ℕ) (rest y : List ℕ) → length y ≡ length (block_bytes es ++ rest) → All Byte y
    → Agrees chosen es p rest y → (xs : List Extension) × AllReplaced chosen es xs × (y ≡ block_bytes xs ++ rest)
block-rebuilt chosen [] p rest y as_long bytes agree = ([], tt, ext_get_or 0 y rest as_long λ i h. agree i h λ c. nowhere (p + i) c.inside)
block-rebuilt chosen (e ∷ es) p rest y as_long bytes agree =
    let h = length (entry_head e) in
    let n = length e.payload in
    let payload = take n (drop h y) in
    let edited : Extension = record { tag = e.tag; payload = take n (drop h y) } in
    let size = middle-size chosen e es p rest y as_long agree in
    let later =
    block-rebuilt (λ k. chosen (suc k)) es (end p e) rest (drop (h + n) y) (back-size chosen e es p rest y as_long agree) (all_drop Byte (h + n) y bytes)
    (back-agrees chosen e es p rest y as_long agree) in
    let head : entry_head edited ≡ entry_head e = rw size in (
      edited ∷ later.0,
      (
        record {
          tag = refl;
          size = size;
          bytes = all_take Byte n (drop h y) (all_drop Byte h y bytes);
          kept = middle chosen e es p rest y as_long agree;
        },
        later.1,
      ),
      whole chosen e es p rest y as_long agree
          ∙ ap₂ ◌++◌ (sym head) (ap (λ (l : List ℕ). take n (drop h y) ++ l) later.2)
          ∙ sym (block-is edited later.0 rest),
    )
