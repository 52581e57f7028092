-- The loop over the chunks: what is written, and what is left, are the whole profile.
use mathlib.Core.Path.{◌≡◌, refl, sym, ap, ◌∙◌}
use mathlib.Core.List.{List, [], ◌∷◌, ◌++◌, append_assoc, append-nil}
use Prim.Native.Nat.{ℕ, zero, suc, ◌+◌, ◌-◌, ◌≤◌, ◌<◌, min}
use native.Mathlib.Omega.{arith}
use lib.ListN.{length, take, drop, length-append, length-drop, take-append-drop}
use Rattle.bpg_codec.specs.Lawful.{All, Byte}
use Rattle.bpg_codec.specs.Outcome.{ok}
use Rattle.bpg_codec.proofs.Tokens.{all_drop}
use Rattle.bpg_writer.proofs.PutLaws.{Put, put-end, put-none, put_same, put_then}
use Rattle.bpg_segment_rules.specs.Runs.{chunk_count, icc_in}
use Rattle.bpg_segment_rules.proofs.ChunkLaws.{takes_count, chunks-none, icc-encodes}
use Rattle.bpg_segment_import.proofs.ChunkLaws.{ChunksAt, length-first, next}

pub record Copied (run profile out : List ℕ) (to p : ℕ) (after : List ℕ) (filled : ℕ) : Type 0 where
  pub left : ℕ
  pub number : ℕ
  pub count : ℕ
  pub rest : List ℕ
  pub chunks-left : ChunksAt run p left number count rest
  pub done : List ℕ
  pub all : done ++ rest ≡ profile
  pub put : Put out to done after filled

module _ (run : List ℕ) (bytes : All Byte run) (at : ℕ) (i : List ℕ) (h : icc_in (drop at run) ≡ ok i) (out : List ℕ) (to : ℕ) (fits : to + length i ≤ length out) where
  pub copied_none : Copied run i out to at out to
  copied_none =
      record {
        left = chunk_count i;
        number = 1;
        count = chunk_count i;
        rest = i;
        chunks-left = record { are = (icc-encodes (drop at run) (all_drop Byte at run bytes) i h).0; takes = takes_count i };
        done = [];
        all = refl;
        put = put-none out to (omega (arith, fits));
      }

  module _ (p : ℕ) (after : List ℕ) (filled : ℕ) (c : Copied run i out to p after filled) where
    pub copied-length : length after ≡ length out
    copied-length = (put-end out to c.done (omega (arith, fits, ap length c.all, length-append c.done c.rest)) c.put).1

    -- nothing is left at the run's end
    pub copied-end : length run ≤ p → Put out to i after filled
    copied-end e = put_same out to (sym (append-nil c.done) ∙ ap (λ (l : List ℕ). c.done ++ l) (sym (none c.left c.rest c.chunks-left)) ∙ c.all) c.put
      where
        none : (m : ℕ) (l : List ℕ) → ChunksAt run p m c.number c.count l → l ≡ []
        none zero [] k = refl
        none zero (x ∷ l) k = absurd (omega (arith, k.takes.0))
        none (suc m) l k = absurd (omega (arith, e, length-drop p run, ap length k.are, length-first m c.number c.count l))

    module _ (more : p < length run) where
      -- a chunk is left
      some : {P : Type 0} → ((m : ℕ) → ChunksAt run p (suc m) c.number c.count c.rest → P) → P
      some {P} f = by c.left c.chunks-left
        where
          by : (m : ℕ) → ChunksAt run p m c.number c.count c.rest → P
          by zero k = absurd (omega (arith, more, length-drop p run, ap length k.are, ap length (chunks-none c.number c.count c.rest)))
          by (suc m) k = f m k

      module _ (end : ℕ) (e : end ≡ min (p + 18 + 65519) (length run)) where
        pub chunk_inside : (p + 18 ≤ end) × (end ≤ length run)
        chunk_inside = some λ m k. let n = next run p m c.number c.count c.rest k end e in (n.inside, n.within)

        pub copied_more : {after2 : List ℕ} {filled2 : ℕ} → Put after filled (take (end - (p + 18)) (drop (p + 18) run)) after2 filled2
            → Copied run i out to end after2 filled2
        copied_more {after2} {filled2} w =
            some λ m k.
            let n = next run p m c.number c.count c.rest k end e in
            let a = take 65519 c.rest in
            let b = drop 65519 c.rest in
            let j : (c.done ++ a) ++ b ≡ i
            = append_assoc c.done a b ∙ ap (λ (l : List ℕ). c.done ++ l) (take-append-drop 65519 c.rest) ∙ c.all in
            record {
              left = m;
              number = suc c.number;
              count = c.count;
              rest = b;
              chunks-left = n.others;
              done = c.done ++ a;
              all = j;
              put =
                  put_then out to c.done a (omega (arith, fits, ap length j, length-append (c.done ++ a) b)) c.put λ _. put_same after filled n.payload w;
            }
