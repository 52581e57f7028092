-- What is measured is the length of the file, and its parts are the file.
use mathlib.Core.Path.{◌≡◌, refl, sym, ap, ap₂, ◌∙◌}
use mathlib.Core.Bool.{Bool, true, false, ◌||◌}
use mathlib.Core.List.{List, [], ◌∷◌, ◌++◌, map, append_assoc}
use Prim.Native.Nat.{ℕ, ◌+◌, ◌≤◌}
use native.Mathlib.Omega.{arith}
use lib.ListN.{length, drop, get_or, length-append, length-drop}
use lib.Seq.{length-take-le}
use Rattle.bpg_codec.specs.Select.{select}
use Rattle.bpg_codec.specs.Lawful.{All}
use Rattle.bpg_codec.specs.Bits.{bytes_for, padded}
use Rattle.bpg_codec.proofs.Packed.{length-padded}
use Rattle.bpg_ue7.specs.Ue7.{ue7_bytes}
use Rattle.bpg_write_bits.specs.declared.BitBuffer.{BitBuffer}
use Rattle.bpg_write_bits.specs.BitBuffer.{buffer_bytes}
use Rattle.bpg_write_bits.proofs.BitBufferLaws.{gathered-fits, gathered-bytes}
use Rattle.bpg_format.specs.declared.record.Range.{Range}
use Rattle.bpg_format.specs.declared.record.Entry.{Entry}
use Rattle.bpg_format.specs.declared.record.Header.{Header}
use Rattle.bpg_format.specs.declared.record.Record.{Record}
use Rattle.bpg_format.specs.Zero.{zero_header}
use Rattle.bpg_format.specs.Rules.{HevcRules}
use Rattle.bpg_format.specs.Syntax.{block_bytes, extension_bytes, extension_part, header_bits, header_bytes, headers_and_data, data_length, file_of}
use Rattle.bpg_format.specs.Records.{bytes_in, extension_of, used_entries, content_of}
use Rattle.bpg_write_plan.specs.Layouts.{entries_size, extension_size, header_size, headers_and_data_size, layout_of}
use Rattle.bpg_write_plan.specs.FileParts.{Encoded, RangeInside, head_part, entries_part, block_part, header_part, headers_and_data_part, file_part}
use Rattle.bpg_write_plan.proofs.JudgedLaws.{Judged}

-- a range in its source has its length
pub range_length : (source : List ℕ) (r : Range) → r.start + r.length ≤ length source → length (bytes_in source r) ≡ r.length
range_length source r h = length-take-le r.length (drop r.start source) (omega (arith, length-drop r.start source))

-- ---- the entries

pub entries-measured : (source : List ℕ) (es : List Entry) → All (RangeInside (length source)) es → length (block_bytes (map (extension_of source) es)) ≡ entries_size es
entries-measured source [] a = refl
entries-measured source (e ∷ es) a =
    let p = bytes_in source e.payload in
    let n = range_length source e.payload a.0 in
    let m = ap (λ (k : ℕ). length (ue7_bytes k)) n in
    omega (
      arith,
      length-append (extension_bytes (extension_of source e)) (block_bytes (map (extension_of source) es)),
      length-append (ue7_bytes e.tag) (ue7_bytes (length p) ++ p),
      length-append (ue7_bytes (length p)) p,
      n,
      m,
      entries-measured source es a.1,
    )

-- ---- a header's bits in a buffer

-- parts that are alike if they are present
select-where : (t : Bool) (l m : List ℕ) → (t ≡ true → l ≡ m) → select t l [] ≡ select t m []
unfolding select
select-where true l m e = e refl
select-where false l m e = refl

length-where : (t : Bool) (l : List ℕ) (n : ℕ) → (t ≡ true → length l ≡ n) → length (select t l []) ≡ select t n 0
unfolding select
length-where true l n e = e refl
length-where false l n e = refl

module _ (depth : ℕ) (t : Bool) (h : Header) (b : BitBuffer) (rules : t ≡ true → HevcRules depth h) (e : Encoded t h b) where
  fits : t ≡ true → length (header_bits h) ≤ 64
  fits there = e.short there depth (rules there)

  size_is : t ≡ true → bytes_for b.len.0 ≡ length (padded (header_bits h))
  size_is there = ap (λ (x : BitBuffer). bytes_for x.len.0) (e.is there ∙ gathered-fits (header_bits h) (fits there)) ∙ sym (length-padded (header_bits h))

  header-part : header_part t b ≡ select t (header_bytes h) []
  unfolding header_bytes
  header-part = select-where t _ _ λ there. ap₂ (λ (n : ℕ) (l : List ℕ). ue7_bytes n ++ l) (size_is there) (ap buffer_bytes (e.is there) ∙ gathered-bytes (header_bits h) (fits there))

  header-measured : length (select t (header_bytes h) []) ≡ header_size t b.len.0
  unfolding header_bytes
  header-measured =
      length-where t (header_bytes h) _ λ there.
      length-append (ue7_bytes (length (padded (header_bits h)))) (padded (header_bits h)) ∙ ap (λ (n : ℕ). length (ue7_bytes n) + n) (sym (size_is there))

extension-measured : (t : Bool) (l : List ℕ) (n : ℕ) → length l ≡ n → length (select t (ue7_bytes (length l) ++ l) []) ≡ extension_size t n
unfolding select
extension-measured true l n e = length-append (ue7_bytes (length l)) l ∙ ap (λ (k : ℕ). length (ue7_bytes k) + k) e
extension-measured false l n e = refl

-- without the flag there is no entry
extension-holds : (t : Bool) (l : List ℕ) → (t ≡ false → l ≡ []) → length l ≤ length (select t (ue7_bytes (length l) ++ l) [])
unfolding select
extension-holds true l n = omega (arith, length-append (ue7_bytes (length l)) l)
extension-holds false l n = omega (arith, ap length (n refl))

-- ---- the file

module _ (r : Record) (source : List ℕ) (j : Judged r source) (a c : BitBuffer)
    (ea : Encoded (r.alpha1_flag || r.alpha2_flag) (get_or r.headers 0 zero_header) a) (ec : Encoded true (get_or r.headers 1 zero_header) c) where
  abbrev depth : ℕ
  depth = r.bit_depth_minus_8 + 8

  abbrev alpha : Bool
  alpha = r.alpha1_flag || r.alpha2_flag

  abbrev alpha_bytes : List ℕ
  alpha_bytes = select alpha (header_bytes (get_or r.headers 0 zero_header)) []

  abbrev color_bytes : List ℕ
  color_bytes = header_bytes (get_or r.headers 1 zero_header)

  headers-and-data-part : headers_and_data_part alpha a c source r.«data» ≡ headers_and_data (content_of r source)
  unfolding headers_and_data content_of select
  headers-and-data-part =
      ap₂ (λ (x y : List ℕ). x ++ (y ++ bytes_in source r.«data»)) (header-part depth alpha (get_or r.headers 0 zero_header) a j.alpha-rules ea)
      (header-part depth true (get_or r.headers 1 zero_header) c (λ _. j.color-rules) ec)

  pub headers-and-data-measured : headers_and_data_size r a.len.0 c.len.0 ≡ length (headers_and_data (content_of r source))
  unfolding headers_and_data content_of select
  headers-and-data-measured =
      let d = bytes_in source r.«data» in
      omega (
        arith,
        length-append alpha_bytes (color_bytes ++ d),
        length-append color_bytes d,
        header-measured depth alpha (get_or r.headers 0 zero_header) a j.alpha-rules ea,
        header-measured depth true (get_or r.headers 1 zero_header) c (λ _. j.color-rules) ec,
        range_length source r.«data» j.data-inside,
      )

  abbrev size : ℕ
  size = headers_and_data_size r a.len.0 c.len.0

  -- the parts are the file
  pub file-is : file_part r source size a c ≡ file_of (content_of r source)
  unfolding file_of data_length extension_part content_of
  file-is =
      ap₂ (λ (n : ℕ) (l : List ℕ). head_part r (select r.explicit_length n 0) ++ (block_part r source ++ l)) headers-and-data-measured headers-and-data-part ∙ simp append_assoc

  pub total-measured : (layout_of r a.len.0 c.len.0).total ≡ length (file_of (content_of r source))
  total-measured =
      let n = select r.explicit_length size 0 in
      let w = ue7_bytes r.picture_width in
      let h = ue7_bytes r.picture_height in
      let d = headers_and_data_part alpha a c source r.«data» in
      omega (
        arith,
        sym (ap length file-is),
        length-append (head_part r n) (block_part r source ++ d),
        length-append (block_part r source) d,
        length-append w (h ++ ue7_bytes n),
        length-append h (ue7_bytes n),
        ap length headers-and-data-part,
        headers-and-data-measured,
        extension-measured r.extension_present_flag (entries_part r source) (entries_size (used_entries r)) (entries-measured source (used_entries r) j.payloads),
      )

  pub block_inside : entries_size (used_entries r) ≤ length (file_of (content_of r source))
  block_inside =
      let n = select r.explicit_length size 0 in
      let d = headers_and_data_part alpha a c source r.«data» in
      omega (
        arith,
        sym (ap length file-is),
        length-append (head_part r n) (block_part r source ++ d),
        length-append (block_part r source) d,
        entries-measured source (used_entries r) j.payloads,
        extension-holds r.extension_present_flag (entries_part r source) (λ e. ap block_bytes (j.no_block e)),
      )
