-- The body of a file as the steps of its reader.
use mathlib.Core.Path.{◌≡◌, sym, ap, ◌∙◌}
use mathlib.Core.Bool.{not, ◌||◌}
use mathlib.Core.List.{List}
use Prim.Native.Nat.{ℕ, ◌-◌, ◌≤◌}
use lib.ListN.{length, drop, length-drop}
use lib.Seq.{drop-drop}
use Rattle.bpg_codec.specs.Outcome.{Outcome, ok, ◌>>=◌, guard, Decoded}
use Rattle.bpg_codec.specs.Codec.{at_own}
use Rattle.bpg_codec.specs.Regions.{packed}
use Rattle.bpg_codec.proofs.Outcome.{ok-injective, unbind, bind_assoc, bind-cong}
use Rattle.bpg_codec.proofs.Positions.{Advances, guarded-advances, item-advances, sized-advances, select-advances, absent-advances, left_after, within}
use Rattle.bpg_ue7.proofs.Advances.{ue7-advances}
use Rattle.bpg_format.specs.Limits.{max_file}
use Rattle.bpg_format.specs.declared.record.Header.{Header}
use Rattle.bpg_format.specs.Zero.{zero_header}
use Rattle.bpg_format.specs.Content.{Flags, Extension, Content, has_alpha, bit_depth}
use Rattle.bpg_format.specs.Rules.{has_animation}
use Rattle.bpg_format.specs.Tests.{counts_to_end, no_forbidden_bit, hevc_allowed, data_allowed}
use Rattle.bpg_format.specs.FileCodec.{header_fields, header, alpha_header}
use Rattle.bpg_format.specs.Read.{Head, read_block, read_header, read_alpha_header, read_body}
use Rattle.bpg_format.proofs.Chain.{header-chain, alpha-chain}
use Rattle.bpg_read_headers.specs.Headers.{header_in}
use Rattle.bpg_read_headers.specs.BothHeaders.{alpha_in, headers_in}
use Rattle.bpg_read_headers.proofs.HeaderLaws.{in-file}
use Rattle.bpg_read_survey.specs.Bodies.{headers_start, body_content}

-- ---- what is left after a header

header-advances : (depth : ℕ) → Advances (header depth)
unfolding header
header-advances depth =
    guarded-advances (guarded-advances (item-advances (sized-advances 2 (ue7-advances 32) (packed 15 header_fields))) no_forbidden_bit 17 at_own) (hevc_allowed depth) 16 at_own

alpha-advances : (f : Flags) → Advances (alpha_header f)
unfolding alpha_header
alpha-advances f = select-advances (has_alpha f) (header-advances (bit_depth f)) (absent-advances zero_header)

module _ (file : List ℕ) (p : ℕ) (x : Decoded ℕ Header) where
  header-left : (depth : ℕ) → read_header depth p (drop p file) ≡ ok x → x.rest ≡ drop x.next file
  header-left depth e = left_after (header-advances depth) file 0 p x (header-chain depth 0 p (drop p file) ∙ e)

  header-inside : (depth : ℕ) → p ≤ length file → read_header depth p (drop p file) ≡ ok x → x.next ≤ length file
  header-inside depth h e = within (header-advances depth) file 0 p h x (header-chain depth 0 p (drop p file) ∙ e)

  alpha-left : (f : Flags) → read_alpha_header f p (drop p file) ≡ ok x → x.rest ≡ drop x.next file
  alpha-left f e = left_after (alpha-advances f) file 0 p x (alpha-chain f 0 p (drop p file) ∙ e)

  alpha-inside : (f : Flags) → p ≤ length file → read_alpha_header f p (drop p file) ≡ ok x → x.next ≤ length file
  alpha-inside f h e = within (alpha-advances f) file 0 p h x (alpha-chain f 0 p (drop p file) ∙ e)

-- ---- the chain from each step on

abbrev pub headers_of : List ℕ → Head → Outcome (Header × Header × ℕ)
headers_of file h = headers_in file (has_alpha h.flags) (bit_depth h.flags) (headers_start h)

-- 26; what is left after the headers is the data
abbrev pub from_data : List ℕ → Head → List Extension → (alpha color : Header) (start : ℕ) → Outcome Content
from_data file h es alpha color start = guard (data_allowed (drop start file)) 26 start >>= λ _. ok (body_content h es alpha color (drop start file))

abbrev pub from_headers : List ℕ → Head → List Extension → Outcome Content
from_headers file h es = headers_of file h >>= λ x. from_data file h es x.0 x.1 x.2

-- after the block: 14, then 10
abbrev pub after_block : List ℕ → Head → List Extension → Outcome Content
after_block file h es =
    guard (not h.flags.animation || has_animation es) 14 5 >>= λ _.
    guard (counts_to_end h.data_length (length file - headers_start h)) 10 h.data_length_at >>= λ _.
    from_headers file h es

module _ (file : List ℕ) (short : length file ≤ max_file) (h : Head) where
  abbrev depth : ℕ
  depth = bit_depth h.flags

  abbrev start : ℕ
  start = headers_start h

  alpha-is : alpha_in file (has_alpha h.flags) depth start ≡ read_alpha_header h.flags start (drop start file)
  unfolding read_alpha_header
  alpha-is = rw (in-file file depth start short)

  pub headers-inside : start ≤ length file → (x : Header × Header × ℕ) → headers_of file h ≡ ok x → x.2 ≤ length file
  unfolding headers_in
  headers-inside inside x e =
      unbind (alpha_in file (has_alpha h.flags) depth start) _ e λ a e1 k.
      unbind (header_in file depth a.next) _ k λ c e2 e3.
      let begins = alpha-inside file start a h.flags inside (sym alpha-is ∙ e1) in
      rw (← ok-injective e3) (header-inside file a.next c depth begins (sym (in-file file depth a.next short) ∙ e2))

  headers-then : (es : List Extension)
      → (read_alpha_header h.flags start (drop start file) >>= λ a.
      read_header depth a.next a.rest >>= λ c.
      guard (data_allowed c.rest) 26 c.next >>= λ _.
      ok (body_content h es a.value c.value c.rest))
      ≡ from_headers file h es
  unfolding headers_in
  headers-then es =
      bind-cong (read_alpha_header h.flags start (drop start file)) _ (λ a. header_in file depth a.next >>= λ c. from_data file h es a.value c.value c.next)
      (λ a e.
      rw (alpha-left file start a h.flags e, in-file file depth a.next short)
      (bind-cong (read_header depth a.next (drop a.next file)) _ _
      (λ c g. ap (λ (l : List ℕ). guard (data_allowed l) 26 c.next >>= λ _. ok (body_content h es a.value c.value l)) (header-left file a.next c depth g))))
      ∙ rw (sym alpha-is) (simp bind_assoc)

  pub body-chain : read_body h (drop h.end file) ≡ (read_block h (drop h.end file) >>= after_block file h)
  unfolding read_body
  body-chain = rw (drop-drop h.extension_length h.end file, length-drop start file) (simp headers-then)
