-- Reading the body of a file: what is known after each step, and what a refusal there answers.
use mathlib.Core.Path.{◌≡◌, refl, sym, ap, ap₂, ◌∙◌}
use mathlib.Core.Bool.{Bool, true, false, not, ◌||◌}
use mathlib.Core.List.{List}
use Prim.Native.Nat.{ℕ, ◌-◌, ◌≤◌}
use native.Mathlib.Omega.{arith}
use lib.Dec.{leb, leb→le}
use lib.ListN.{length, take, drop, length-drop}
use lib.Seq.{take-length}
use Rattle.std.specs.Prelude.{Some, None}
use Rattle.std.specs.Option.{is_some}
use Rattle.bpg_codec.specs.Select.{select}
use Rattle.bpg_codec.specs.Outcome.{Outcome, ok, error, ◌>>=◌}
use Rattle.bpg_codec.proofs.Outcome.{error-not-ok, ok-injective, unguard}
use Rattle.bpg_bytes.specs.declared.position.BytePos.{BytePos}
use Rattle.bpg_bytes.specs.declared.position.Located.{Located}
use Rattle.bpg_format.specs.Content.{Extension}
use Rattle.bpg_format.specs.Rules.{has_animation}
use Rattle.bpg_format.specs.Tests.{counts_to_end, data_allowed}
use Rattle.bpg_format.specs.Read.{Head, read_block, read_body}
use Rattle.bpg_read_entries.specs.declared.block.Block.{Block}
use Rattle.bpg_read_entries.specs.Blocks.{block_of, block_answer}
use Rattle.bpg_read_headers.specs.declared.headers.Headers.{Headers}
use Rattle.bpg_read_headers.specs.BothHeaders.{headers_at}
use Rattle.bpg_read_survey.specs.Bodies.{HeadRead, headers_start}
use Rattle.bpg_read_survey.specs.Surveys.{survey_of}
use Rattle.bpg_read_survey.specs.declared.rest.RestSurvey.{RestSurvey}
use Rattle.bpg_read_survey.proofs.BodyChain.{headers_of, from_data, from_headers, after_block, headers-inside, body-chain}

-- ---- what was read, of an answer for it

pub unanswered : {A B : Type 0} (m : Outcome A) (f : A → B) (s o : ℕ) → error s o ≡ (m >>= λ a. ok (f a)) → m ≡ error s o
unanswered (ok a) f s o e = absurd (error-not-ok e)
unanswered (error t p) f s o e = cc

pub answered : {A B P : Type 0} (m : Outcome A) (f : A → B) (b : B) → ok b ≡ (m >>= λ a. ok (f a)) → ((a : A) → m ≡ ok a → b ≡ f a → P) → P
answered (ok a) f b e g = g a refl (ok-injective e)
answered (error s o) f b e g = absurd (error-not-ok (sym e))

-- ---- the block

-- it was read, and these are its entries
pub record BlockRead (file : List ℕ) (h : Head) (b : Block) : Type 0 where
  pub head : HeadRead file h
  pub entries : List Extension
  pub is : b ≡ block_of entries
  pub inside : headers_start h ≤ length file
  pub left : read_body h (drop h.end file) ≡ after_block file h entries

module _ {file : List ℕ} {h : Head} (k : HeadRead file h) where
  abbrev after : List ℕ
  after = drop h.end file

  chain : read_body h after ≡ (read_block h after >>= after_block file h)
  chain = body-chain file k.short h

  block_inside : (es : List Extension) → read_block h after ≡ ok es → headers_start h ≤ length file
  unfolding read_block
  block_inside es e =
      unguard (leb h.extension_length (length after)) 2 h.extension_length_at _ e λ t _.
      omega (arith, leb→le h.extension_length (length after) t, length-drop h.end file)

  pub block_refused : (s o : ℕ) → error s o ≡ block_answer (read_block h after) → error s o ≡ survey_of (length file) (read_body h after)
  block_refused s o e = let w = unanswered (read_block h after) block_of s o e in rw (chain, w)

  pub block_read : (b : Block) → ok b ≡ block_answer (read_block h after) → BlockRead file h b
  block_read b e =
      answered (read_block h after) block_of b e λ es w i. record { head = k; entries = es; is = i; inside = block_inside es w; left = chain ∙ rw w }

-- ---- 14, then 10

-- neither refuses the file
pub record AtHeaders (file : List ℕ) (h : Head) (b : Block) : Type 0 where
  pub block : BlockRead file h b
  pub left : read_body h (drop h.end file) ≡ from_headers file h block.entries

is_some-select : {A : Type 0} (t : Bool) (a : A) → is_some (select t (Some a) None) ≡ t
unfolding select
is_some-select true a = refl
is_some-select false a = refl

module _ {file : List ℕ} {h : Head} {b : Block} (k : BlockRead file h b) (animated : Bool) (is : animated ≡ is_some b.animation) where
  has : has_animation k.entries ≡ animated
  has = sym (is ∙ ap (λ (x : Block). is_some x.animation) k.is ∙ is_some-select (has_animation k.entries) _)

  pub no-control : (not h.flags.animation || animated) ≡ false → error 14 5 ≡ survey_of (length file) (read_body h (drop h.end file))
  no-control a = rw (k.left, has, a)

  module _ (control : (not h.flags.animation || animated) ≡ true) where
    pub length-misses : counts_to_end h.data_length (length file - headers_start h) ≡ false
        → error 10 h.data_length_at ≡ survey_of (length file) (read_body h (drop h.end file))
    length-misses a = rw (k.left, has, control, a)

    pub at-headers : counts_to_end h.data_length (length file - headers_start h) ≡ true → AtHeaders file h b
    at-headers a = record { block = k; left = k.left ∙ rw (has, control, a) }

-- ---- the headers

-- they were read, and the data follows them
pub record HeadersRead (file : List ℕ) (h : Head) (b : Block) (x : Located Headers BytePos) : Type 0 where
  pub block : BlockRead file h b
  pub inside : x.next.0 ≤ length file
  pub left : read_body h (drop h.end file) ≡ from_data file h block.entries x.value.alpha x.value.color x.next.0

module _ {file : List ℕ} {h : Head} {b : Block} (k : AtHeaders file h b) where
  pub headers-refused : (s o : ℕ) → error s o ≡ headers_of file h → error s o ≡ survey_of (length file) (read_body h (drop h.end file))
  headers-refused s o e = rw (k.left, ← e)

  pub headers-read : (x : Located Headers BytePos) → ok (headers_at x) ≡ headers_of file h → HeadersRead file h b x
  headers-read x e =
      record { block = k.block; inside = headers-inside file k.block.head.short h k.block.inside (headers_at x) (sym e); left = k.left ∙ rw (← e) }

-- ---- 26

-- a slice to the end is what is left
pub to_end : (file : List ℕ) (p : ℕ) → take (length file - p) (drop p file) ≡ drop p file
to_end file p = rw (← length-drop p file) (take-length (drop p file))

module _ {file : List ℕ} {h : Head} {b : Block} {x : Located Headers BytePos} (k : HeadersRead file h b x) where
  pub data-stops : data_allowed (drop x.next.0 file) ≡ false → error 26 x.next.0 ≡ survey_of (length file) (read_body h (drop h.end file))
  data-stops a = rw (k.left, a)

  abbrev found : Block → ℕ → RestSurvey
  found b n = record { block = b; headers = record { value = x.value; next = record { 0 = n } } }

  -- the data is allowed, and so the whole body was read
  pub body_read : data_allowed (drop x.next.0 file) ≡ true → ok (record { block = b; headers = x }) ≡ survey_of (length file) (read_body h (drop h.end file))
  body_read a =
      let n : length file - length (drop x.next.0 file) ≡ x.next.0 = omega (arith, length-drop x.next.0 file, k.inside) in
      rw (k.left, a) (ap₂ (λ (c : Block) (m : ℕ). ok (found c m)) k.block.is (sym n))
