-- A record over its file gives its content back.
use mathlib.Core.Path.{◌≡◌, refl, sym, ap, ap₂, ◌∙◌}
use mathlib.Core.Bool.{Bool, true, false}
use mathlib.Core.List.{List, [], ◌∷◌, ◌++◌, append_assoc, map}
use Prim.Native.Nat.{ℕ, suc, ◌+◌}
use native.Mathlib.Omega.{arith}
use lib.ListN.{length, take, drop, length-append}
use lib.Seq.{take-append_seam, drop-append_seam, take_at, take-length}
use Rattle.bpg_codec.specs.Select.{select}
use Rattle.bpg_codec.proofs.Select.{select-true, select-false}
use Rattle.bpg_ue7.specs.Ue7.{ue7_bytes}
use Rattle.bpg_format.specs.Content.{Extension, Content, has_alpha}
use Rattle.bpg_format.specs.Syntax.{magic, byte4, byte5, extension_bytes, block_bytes, extension_part, header_bytes, headers_and_data, data_length, file_of}
use Rattle.bpg_format.specs.Rules.{Rules}
use Rattle.bpg_format.specs.Records.{entries_at, pad_entries, extension_length_start, block_start, data_start, record_of, extension_of, content_of}

-- ---- the file in three parts: what stands before the entries, the entries, and what stands after

unfoldable pub head_bytes : Content → List ℕ
head_bytes c = magic ++ (byte4 c.flags ∷ byte5 c.flags ∷ (ue7_bytes c.width ++ (ue7_bytes c.height ++ ue7_bytes (data_length c))))

unfoldable pub before_entries : Content → List ℕ
before_entries c = head_bytes c ++ select c.flags.extension_present (ue7_bytes (length (block_bytes c.extensions))) []

head-file : (c : Content) → file_of c ≡ head_bytes c ++ (extension_part c.flags.extension_present c.extensions ++ headers_and_data c)
unfolding file_of head_bytes
head-file c = simp append_assoc

head-length : (c : Content) → length (head_bytes c) ≡ extension_length_start c
unfolding head_bytes extension_length_start
head-length c = simp length-append (omega arith)

pub file-entries : (c : Content) → (c.flags.extension_present ≡ false → c.extensions ≡ []) → file_of c ≡ before_entries c ++ (block_bytes c.extensions ++ headers_and_data c)
unfolding before_entries extension_part
file-entries c n = head-file c ∙ by c.flags.extension_present n
  where
    by : (b : Bool) → (b ≡ false → c.extensions ≡ [])
        → head_bytes c ++ (select b (ue7_bytes (length (block_bytes c.extensions)) ++ block_bytes c.extensions) [] ++ headers_and_data c)
        ≡ (head_bytes c ++ select b (ue7_bytes (length (block_bytes c.extensions))) []) ++ (block_bytes c.extensions ++ headers_and_data c)
    by true n = rw (select-true _ _ refl, select-true _ _ refl) (simp append_assoc)
    by false n = rw (n refl, select-false _ _ refl, select-false _ _ refl) (simp append_assoc)

select-length : (b : Bool) (l : List ℕ) → length (select b l []) ≡ select b (length l) 0
unfolding select
select-length true l = refl
select-length false l = refl

pub before-length : (c : Content) → length (before_entries c) ≡ block_start c
unfolding before_entries block_start
before-length c =
    length-append (head_bytes c) _ ∙ ap₂ ◌+◌ (head-length c) (select-length c.flags.extension_present (ue7_bytes (length (block_bytes c.extensions))))

-- ---- the entries

pub entries-length : (p : ℕ) (es : List Extension) → length (entries_at p es) ≡ length es
entries-length p [] = refl
entries-length p (e ∷ es) = ap suc (entries-length (p + length (ue7_bytes e.tag) + length (ue7_bytes (length e.payload)) + length e.payload) es)

payload-back : (before tag size payload after : List ℕ)
    → take (length payload) (drop (length before + length tag + length size) (before ++ ((tag ++ (size ++ payload)) ++ after))) ≡ payload
payload-back before tag size payload after =
    let f = before ++ (tag ++ size) in
    let n : length before + length tag + length size ≡ length (before ++ (tag ++ size)) =
    sym (length-append before (tag ++ size) ∙ omega (arith, length-append tag size)) in
    let e : before ++ ((tag ++ (size ++ payload)) ++ after) ≡ (before ++ (tag ++ size)) ++ (payload ++ after) = simp append_assoc in
    rw (n, e, drop-append_seam f (payload ++ after), take-append_seam payload after)

entries-back : (es : List Extension) (f before after : List ℕ) (p : ℕ) → f ≡ before ++ (block_bytes es ++ after) → p ≡ length before
    → map (extension_of f) (entries_at p es) ≡ es
entries-back [] f before after p e n = refl
entries-back (x ∷ es) f before after p e n =
    let tag = ue7_bytes x.tag in
    let size = ue7_bytes (length x.payload) in
    let k : p + length tag + length size + length x.payload ≡ length (before ++ extension_bytes x) =
    omega (arith, n, length-append before (extension_bytes x), length-append tag (size ++ x.payload), length-append size x.payload) in
    let g : f ≡ (before ++ extension_bytes x) ++ (block_bytes es ++ after) = e ∙ simp append_assoc in
    ap₂ ◌∷◌
    (ap {B = Extension} (λ (l : List ℕ). record { tag = x.tag; payload = l })
    (rw (e, n, append_assoc (extension_bytes x) (block_bytes es) after) (payload-back before tag size x.payload (block_bytes es ++ after))))
    (entries-back es f (before ++ extension_bytes x) after _ g k)

pub used-entries : (p : ℕ) (es : List Extension) → take (length es) (pad_entries (entries_at p es)) ≡ entries_at p es
used-entries p es = take_at (entries_at p es) _ (length es) (entries-length p es)

-- ---- the data

unfoldable pub before_data : Content → List ℕ
before_data c = before_entries c ++ (block_bytes c.extensions ++ (select (has_alpha c.flags) (header_bytes c.alpha_header) [] ++ header_bytes c.color_header))

pub data-file : (c : Content) → (c.flags.extension_present ≡ false → c.extensions ≡ []) → file_of c ≡ before_data c ++ c.hevc_data
unfolding before_data headers_and_data
data-file c n = file-entries c n ∙ simp append_assoc

pub data-length : (c : Content) → length (before_data c) ≡ data_start c
unfolding before_data data_start
data-length c =
    let s = select-length (has_alpha c.flags) (header_bytes c.alpha_header) in
    simp length-append (omega (arith, before-length c, s))

data-back : (c : Content) → (c.flags.extension_present ≡ false → c.extensions ≡ []) → take (length c.hevc_data) (drop (data_start c) (file_of c)) ≡ c.hevc_data
data-back c n = rw (data-file c n, ← data-length c, drop-append_seam (before_data c) c.hevc_data, take-length c.hevc_data)

-- ---- the content of the record over the file

pub content-record : (c : Content) → Rules c → content_of (record_of c) (file_of c) ≡ c
unfolding content_of record_of
content-record c r =
    let es : map (extension_of (file_of c)) (take (length c.extensions) (pad_entries (entries_at (block_start c) c.extensions))) ≡ c.extensions =
    ap (map (extension_of (file_of c))) (used-entries (block_start c) c.extensions)
    ∙ entries-back c.extensions (file_of c) (before_entries c) (headers_and_data c) (block_start c) (file-entries c r.absent-block) (sym (before-length c)) in
    same (c) es (data-back c r.absent-block)
  where
    same : (c : Content) {es : List Extension} {d : List ℕ} → es ≡ c.extensions → d ≡ c.hevc_data
        → ◌≡◌ {A = Content}
        (record {
          flags = c.flags;
          width = c.width;
          height = c.height;
          explicit_length = c.explicit_length;
          extensions = es;
          control = c.control;
          alpha_header = c.alpha_header;
          color_header = c.color_header;
          hevc_data = d;
        })
        c
    same c e d = rw (e, d)
