-- Why a list gives no record, and what is known of one that does.
use mathlib.Core.Path.{◌≡◌, refl, sym, ◌∙◌}
use mathlib.Core.Bool.{Bool, true, false}
use mathlib.Core.List.{List}
use Prim.Native.Nat.{ℕ, ◌*◌, ◌≤◌, ◌<◌}
use lib.Dec.{leb, leb→le, nleb→lt}
use lib.ListN.{length, take, drop}
use borrow.Author.Tests.{le-leb, lt-leb}
use Rattle.bpg_codec.specs.Outcome.{ok, error}
use Rattle.bpg_codec.proofs.Outcome.{error-not-ok}
use Rattle.bpg_format.specs.Limits.{max_entries}
use Rattle.bpg_format.specs.declared.record.Record.{Record}
use Rattle.bpg_export_list.specs.Numbers.{fixed_length, list_length}
use Rattle.bpg_import_list.specs.Fields.{count_of, list_record}
use Rattle.bpg_import_list.specs.Calls.{fixed_fits, words, read_list}

module _ (l : List ℕ) where
  -- the numbers of the entries in use
  abbrev entry_words : List ℕ
  entry_words = take (4 * count_of l) (drop fixed_length l)

  pub no-fixed : length l < fixed_length → read_list l ≡ error 20 0
  unfolding read_list
  no-fixed h = rw (lt-leb fixed_length (length l) h)

  module _ (long : fixed_length ≤ length l) where
    pub fixed-large : fixed_fits l ≡ false → read_list l ≡ error 19 0
    unfolding read_list
    fixed-large f = rw (le-leb fixed_length (length l) long, f)

    module _ (fits : fixed_fits l ≡ true) where
      pub many : max_entries < count_of l → read_list l ≡ error 11 0
      unfolding read_list
      many h = rw (le-leb fixed_length (length l) long, fits, lt-leb (count_of l) max_entries h)

      module _ (few : count_of l ≤ max_entries) where
        pub no-entries : length l < list_length (count_of l) → read_list l ≡ error 20 0
        unfolding read_list
        no-entries h = rw (le-leb fixed_length (length l) long, fits, le-leb (count_of l) max_entries few, lt-leb (list_length (count_of l)) (length l) h)

        module _ (whole : list_length (count_of l) ≤ length l) where
          pub entry-large : words entry_words ≡ false → read_list l ≡ error 19 0
          unfolding read_list
          entry-large w = rw (le-leb fixed_length (length l) long, fits, le-leb (count_of l) max_entries few, le-leb (list_length (count_of l)) (length l) whole, w)

          pub given : words entry_words ≡ true → read_list l ≡ ok (list_record l)
          unfolding read_list
          given w = rw (le-leb fixed_length (length l) long, fits, le-leb (count_of l) max_entries few, le-leb (list_length (count_of l)) (length l) whole, w)

  -- a list that gives a record
  pub record Gives : Type 0 where
    pub fixed-long : fixed_length ≤ length l
    pub fixed-fits : fixed_fits l ≡ true
    pub few : count_of l ≤ max_entries
    pub long : list_length (count_of l) ≤ length l
    pub entries_fit : words entry_words ≡ true
    pub is : read_list l ≡ ok (list_record l)

  pub gives : {r : Record} → read_list l ≡ ok r → Gives
  gives {r} z =
      by (leb fixed_length (length l)) (fixed_fits l) (leb (count_of l) max_entries) (leb (list_length (count_of l)) (length l)) (words entry_words) refl refl refl refl refl
    where
      le : (a b : ℕ) → leb a b ≡ true → a ≤ b
      le a b e = leb→le a b (rw e tt)

      lt : (a b : ℕ) → leb a b ≡ false → b < a
      lt a b e = nleb→lt a b (rw e tt)

      by : (b1 b2 b3 b4 b5 : Bool) → leb fixed_length (length l) ≡ b1 → fixed_fits l ≡ b2 → leb (count_of l) max_entries ≡ b3 → leb (list_length (count_of l)) (length l) ≡ b4
          → words entry_words ≡ b5 → Gives
      by false b2 b3 b4 b5 e1 e2 e3 e4 e5 = absurd (error-not-ok (sym (no-fixed (lt _ _ e1)) ∙ z))
      by true false b3 b4 b5 e1 e2 e3 e4 e5 = absurd (error-not-ok (sym (fixed-large (le _ _ e1) e2) ∙ z))
      by true true false b4 b5 e1 e2 e3 e4 e5 = absurd (error-not-ok (sym (many (le _ _ e1) e2 (lt _ _ e3)) ∙ z))
      by true true true false b5 e1 e2 e3 e4 e5 = absurd (error-not-ok (sym (no-entries (le _ _ e1) e2 (le _ _ e3) (lt _ _ e4)) ∙ z))
      by true true true true false e1 e2 e3 e4 e5 = absurd (error-not-ok (sym (entry-large (le _ _ e1) e2 (le _ _ e3) (le _ _ e4) e5) ∙ z))
      by true true true true true e1 e2 e3 e4 e5 =
          record {
            fixed-long = le _ _ e1;
            fixed-fits = e2;
            few = le _ _ e3;
            long = le _ _ e4;
            entries_fit = e5;
            is = given (le _ _ e1) e2 (le _ _ e3) (le _ _ e4) e5;
          }
