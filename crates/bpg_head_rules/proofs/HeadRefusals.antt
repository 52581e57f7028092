-- The head refuses with the numbers of its items alone.
use mathlib.Core.Path.{◌≡◌}
use mathlib.Core.List.{List}
use Prim.Native.Nat.{ℕ, ◌/◌, ◌%◌}
use lib.Dec.{leb}
use lib.ListN.{length, take, drop, get_or}
use Rattle.bpg_codec.specs.Lists.{same}
use Rattle.bpg_codec.specs.Outcome.{error}
use Rattle.bpg_codec.proofs.Refusals.{Refuses, refuses-ok, refuses-bind, refuses-guard, refuses-select}
use Rattle.bpg_ue7.specs.Ue7.{ue7_decode, not_zero}
use Rattle.bpg_ue7.proofs.Refusals.{ue7-refuses}
use Rattle.bpg_format.specs.Syntax.{magic}
use Rattle.bpg_format.specs.Tests.{color_space_allowed}
use Rattle.bpg_format.specs.Read.{flags_of, read_flags, read_head}
use Rattle.bpg_read_head.specs.Heads.{read_extension_length}
use Rattle.bpg_head_rules.specs.Calls.{HeadStatus}

abbrev Numbered : (status offset : ℕ) → Type 0
Numbered s o = HeadStatus s

number : (p : ℕ) (l : List ℕ) → Refuses Numbered (ue7_decode 32 p l)
number p l = (ue7-refuses Numbered (λ _. tt) (λ _. tt) (λ _. tt) 32).refuses p p l

flags-refuse : (l : List ℕ) → Refuses Numbered (read_flags l)
unfolding read_flags
flags-refuse l =
    let f = flags_of (get_or l 4 0) (get_or l 5 0) in
    refuses-guard Numbered (leb 6 (length l)) 2 0 _ tt
    (refuses-guard Numbered (same magic (take 4 l)) 3 0 _ tt
    (refuses-guard Numbered (leb (get_or l 4 0 / 32) 5) 4 4 _ tt
    (refuses-guard Numbered (leb (get_or l 4 0 % 16) 6) 5 4 _ tt
    (refuses-guard Numbered (color_space_allowed f) 6 5 _ tt (refuses-ok Numbered f)))))

pub head-refuses : (l : List ℕ) (s o : ℕ) → read_head l ≡ error s o → HeadStatus s
unfolding read_head
head-refuses l =
    refuses-bind Numbered (read_flags l) _ (flags-refuse l) λ f.
    refuses-bind Numbered (ue7_decode 32 6 (drop 6 l)) _ (number 6 (drop 6 l)) λ w.
    refuses-guard Numbered (not_zero w.value) 9 6 _ tt
    (refuses-bind Numbered (ue7_decode 32 w.next w.rest) _ (number w.next w.rest) λ v.
    refuses-guard Numbered (not_zero v.value) 9 w.next _ tt
    (refuses-bind Numbered (ue7_decode 32 v.next v.rest) _ (number v.next v.rest) λ s.
    refuses-bind Numbered (read_extension_length f.extension_present s.next s.rest) _
    (refuses-select Numbered f.extension_present _ _ (number s.next s.rest) (refuses-ok Numbered _)) λ x.
    refuses-ok Numbered _))
