-- What is proved of the calls on any bytes, for readers: each theorem under a line that says it, with the law that proves it. Assumes nothing.
use Rattle.std.specs.Prelude.{Ok, Some, None, ◌≡◌, ◌⊎◌, ◌≢◌, ◌↔◌, List, [], ℕ, ◌≤◌, ◌<◌, length}
use Rattle.std.proofs.Math.Path.{refl}
use Rattle.std.proofs.Common.{ap, inl, ⊎_elim, arith}
use Rattle.directory.specs.declared.Lead.{Lead}
use Rattle.directory.specs.declared.Lead.TheVariants.{ToLine, PastLast}
use Rattle.directory.specs.Sizes.{Header, most_codes, headed}
use Rattle.directory.specs.Refusals.{number_of, refused, Refusal, NoneApplies, Given}
use Rattle.directory.specs.File.{header_in, code_at, key_length, stored_code, lead_in}
use Rattle.directory.specs.Whole.{Framed, Whole}
use Rattle.directory.specs.Opening.{header_refusals, open_refusals}
use Rattle.directory.specs.LookingUp.{lookup_refusals}
use Rattle.directory.specs.Showing.{empty_part, bytes_of, shown, ShowsNothing, ShowsCode}
use Rattle.directory.specs.Calls.{kind_of, header_of, open_of, lookup_of, header_numbers_of, open_numbers_of, lookup_numbers_of, show_part_of, show_of}
use Rattle.directory.specs.Answers.{opening_numbers, found_numbers}
use Rattle.directory.proofs.RefusalLaws.{given_more}
use Rattle.directory.proofs.NumberLaws.{header_paper, open_paper, lookup_paper, open_numbers, lookup-numbers, numbers_of_success, numbers_of-refusal, number_some, refused_by_number}
use Rattle.directory.proofs.OpeningLaws.{header-opened, header_refused, opening-opened, opening_refused}
use Rattle.directory.proofs.LookupLaws.{lookup-line, lookup-below, lookup_refused}
use Rattle.directory.proofs.ShowingLaws.{shown-part, shown-stored, part_empty, shown_empty, shown_bytes}
use Rattle.directory.proofs.OpenedLaws.{stored_some, stored_own, lookup-stored, lookup_unknown, lookup_wrong, shows_stored, shows_none}
use Rattle.directory.specs.declared.Reason.{Reason}
use Rattle.directory.specs.declared.Reason.TheVariants.{WrongRank, WrongCode}

-- ---- short names, of any bytes f

-- the refusals of opening, of the header alone and of looking up code t, in their order
abbrev pub open_table : List ℕ → List Refusal
open_table f = open_refusals (kind_of f) (header_in f) f

abbrev pub header_table : List ℕ → List Refusal
header_table f = header_refusals (kind_of f) (header_in f) f

abbrev pub lookup_table : List ℕ → List ℕ → List Refusal
lookup_table f t = lookup_refusals (kind_of f) (header_in f) f t

-- where code t leads by the stored values
abbrev pub lead_of_code : List ℕ → List ℕ → Lead
lead_of_code f t = lead_in (kind_of f) (header_in f) f t

-- the code that is stored at line l
abbrev pub stored : List ℕ → ℕ → List ℕ
stored f l = stored_code (kind_of f) (header_in f) f l

-- the length that its KY record gives
abbrev pub stored_length : List ℕ → ℕ → ℕ
stored_length f l = key_length (kind_of f) (header_in f) f l

-- the most bytes of a code, 32
abbrev pub most_bytes : List ℕ → ℕ
most_bytes f = (kind_of f).positions

module _ (f : List ℕ) where
  -- ---- opening, and the header alone

  -- a file opens exactly if it is whole, and gives its header's n, r and v
  pub opens_exactly_if_whole : (n r v : ℕ) → (open_of f ≡ Ok (headed n r v)) ↔ ((header_in f ≡ headed n r v) × Whole (kind_of f) (headed n r v) f)
  unfolding open_of
  opens_exactly_if_whole = opening-opened (kind_of f) f

  -- it is refused exactly with the reason and place of the first of 9 to 15 that applies, in document 01's order
  pub opening_is_refused_by_the_first_that_applies : (k : Reason) (p : ℕ) → (open_of f ≡ refused k p) ↔ Given (open_table f) k p
  unfolding open_of
  opening_is_refused_by_the_first_that_applies = opening_refused (kind_of f) f

  -- the header call gives n, r and v exactly if the first mark, the sizes and the length are right
  pub the_header_is_given_exactly_if_framed : (n r v : ℕ) → (header_of f ≡ Ok (headed n r v)) ↔ ((header_in f ≡ headed n r v) × Framed (kind_of f) (headed n r v) f)
  unfolding header_of
  the_header_is_given_exactly_if_framed = header-opened (kind_of f) f

  -- it is refused exactly with the reason and place of the first of 9, 10, 11 and 9 that applies
  pub the_header_is_refused_by_the_first_that_applies : (k : Reason) (p : ℕ) → (header_of f ≡ refused k p) ↔ Given (header_table f) k p
  unfolding header_of
  the_header_is_refused_by_the_first_that_applies = header_refused (kind_of f) f

  -- what opens, gives its header's numbers to the header call too
  pub what_opens_has_its_header : (n r v : ℕ) → open_of f ≡ Ok (headed n r v) → header_of f ≡ Ok (headed n r v)
  what_opens_has_its_header n r v o = let w = (opens_exactly_if_whole n r v).0 o in (the_header_is_given_exactly_if_framed n r v).1 (w.0, w.1.framed)

  -- no header that is given has more than 1,024 codes
  pub a_header_has_at_most_1024_codes : (n r v : ℕ) → header_of f ≡ Ok (headed n r v) → n ≤ most_codes
  a_header_has_at_most_1024_codes n r v o = ((the_header_is_given_exactly_if_framed n r v).0 o).1.sizes.few

  -- ---- the paper's numbers

  -- the numbers of an answer are the paper's
  pub the_numbers_of_the_header : opening_numbers (header_of f) ≡ header_numbers_of f
  the_numbers_of_the_header = header_paper f

  pub the_numbers_of_opening : opening_numbers (open_of f) ≡ open_numbers_of f
  the_numbers_of_opening = open_paper f

  pub the_numbers_of_looking_up : (t : List ℕ) → found_numbers (lookup_of f t) ≡ lookup_numbers_of f t
  the_numbers_of_looking_up = lookup_paper f

  -- a refusal of opening has a number from 9 to 15
  pub opening_refuses_with_9_to_15 : (k : Reason) (p : ℕ) → open_of f ≡ refused k p → (9 ≤ number_of k) × (number_of k ≤ 15)
  opening_refuses_with_9_to_15 k p e = open_numbers (kind_of f) (header_in f) f ((opening_is_refused_by_the_first_that_applies k p).0 e)

  -- so number 0 is given exactly if the file opens, with the place 0 and its n, r and v
  pub number_0_exactly_if_it_opens : (n r v : ℕ) → (open_numbers_of f ≡ (0, 0, n, r, v)) ↔ (open_of f ≡ Ok (headed n r v))
  number_0_exactly_if_it_opens = rw (← open_paper f) (numbers_of_success (open_of f))

  -- otherwise the number and the place are those of the refusal, and n, r and v are 0
  pub otherwise_the_refusals_number_and_place : (number p : ℕ) → 1 ≤ number → (open_numbers_of f ≡ (number, p, 0, 0, 0)) ↔ ((k : Reason) × (number_of k ≡ number) × (open_of f ≡ refused k p))
  otherwise_the_refusals_number_and_place = rw (← open_paper f) (numbers_of-refusal (open_of f))

  -- a number is that of one reason, so these numbers tell the refusal itself
  pub the_numbers_tell_the_refusal : (k : Reason) (p : ℕ) → (open_numbers_of f ≡ (number_of k, p, 0, 0, 0)) ↔ (open_of f ≡ refused k p)
  the_numbers_tell_the_refusal k p =
      let w = otherwise_the_refusals_number_and_place (number_of k) p (number_some k) in
      (λ e. refused_by_number k p (w.0 e), λ e. w.1 (k, refl, e))

  -- ---- looking up

  module _ (t : List ℕ) where
    -- a line is given exactly if no refusal applies, the code leads to it, and its KY record has the code's length and bytes
    pub a_line_is_given_exactly_if_the_code_leads_and_stands_there : (l : ℕ) → (lookup_of f t ≡ Ok (Some l)) ↔ (NoneApplies (lookup_table f t) × (lead_of_code f t ≡ ToLine l) × (stored_length f l ≡ length t) × (stored f l ≡ t))
    unfolding lookup_of
    a_line_is_given_exactly_if_the_code_leads_and_stands_there = lookup-line (kind_of f) f t

    -- so a line that is given is below the header's n, and the code that is stored there is the one asked for
    pub a_line_that_is_given_stores_the_code : (l : ℕ) → lookup_of f t ≡ Ok (Some l) → (l < (header_in f).n) × (stored f l ≡ t)
    unfolding lookup_of
    a_line_that_is_given_stores_the_code l e = (lookup-below (kind_of f) f t l e, ((lookup-line (kind_of f) f t l).0 e).3)

    -- that n is the one that the header call gives
    pub a_line_that_is_given_is_below_the_headers_n : (n r v l : ℕ) → header_of f ≡ Ok (headed n r v) → lookup_of f t ≡ Ok (Some l) → l < n
    a_line_that_is_given_is_below_the_headers_n n r v l o e = let h = ((the_header_is_given_exactly_if_framed n r v).0 o).0 in (rw h at (a_line_that_is_given_stores_the_code l e).0)

    -- looking up is refused exactly with the first of 9, 10, 11, 9 and 16 that applies, or where none does with 13, if the code leads to a line of n or more by the rank entry that is the place
    pub looking_up_is_refused_by_the_first_that_applies : (k : Reason) (p : ℕ) → (lookup_of f t ≡ refused k p) ↔ (Given (lookup_table f t) k p ⊎ (NoneApplies (lookup_table f t) × (k ≡ WrongRank) × (lead_of_code f t ≡ PastLast p)))
    unfolding lookup_of
    looking_up_is_refused_by_the_first_that_applies = lookup_refused (kind_of f) f t

    -- its number is from 9 to 16
    pub looking_up_refuses_with_9_to_16 : (k : Reason) (p : ℕ) → lookup_of f t ≡ refused k p → (9 ≤ number_of k) × (number_of k ≤ 16)
    looking_up_refuses_with_9_to_16 k p e = ⊎_elim (λ g. lookup-numbers (kind_of f) (header_in f) f t g) (λ w. let e : number_of k ≡ 13 = ap number_of w.1 in (omega arith, omega arith)) ((looking_up_is_refused_by_the_first_that_applies k p).0 e)

    -- a refusal of the header is that of every lookup, with the same number and place
    pub a_refused_header_is_refused_to_every_code : (k : Reason) (p : ℕ) → header_of f ≡ refused k p → lookup_of f t ≡ refused k p
    unfolding lookup_refusals
    a_refused_header_is_refused_to_every_code k p e = (looking_up_is_refused_by_the_first_that_applies k p).1 (inl (given_more _ ((the_header_is_refused_by_the_first_that_applies k p).0 e)))

  -- ---- showing

  module _ (l : ℕ) where
    -- the bytes that are shown are those of the part
    pub the_bytes_shown_are_those_of_the_part : show_of f l ≡ bytes_of f (show_part_of f l)
    unfolding show_of show_part_of shown
    the_bytes_shown_are_those_of_the_part = refl

    -- a line shows no bytes exactly if a refusal of the header applies, the line is n or more, or the stored length is 0 or over 32
    pub shows_nothing_exactly_if_there_is_nothing : (show_of f l ≡ []) ↔ ShowsNothing (kind_of f) f l
    unfolding show_of
    shows_nothing_exactly_if_there_is_nothing = shown_empty (kind_of f) f l

    -- in these cases alone the part is the empty one, the file's empty beginning
    pub the_empty_part_exactly_if_there_is_nothing : (show_part_of f l ≡ empty_part) ↔ ShowsNothing (kind_of f) f l
    unfolding show_part_of
    the_empty_part_exactly_if_there_is_nothing = part_empty (kind_of f) f l

    -- otherwise the line shows the stored code, where it stands in the file
    pub otherwise_the_stored_code_where_it_stands : ShowsCode (kind_of f) f l → (show_of f l ≡ stored f l) × (show_part_of f l ≡ record { start = code_at (kind_of f) (header_in f) l; size = stored_length f l })
    unfolding show_of show_part_of
    otherwise_the_stored_code_where_it_stands w = (shown-stored (kind_of f) f l w, shown-part (kind_of f) f l w)

    -- a code that is shown has 1 to 32 bytes
    pub a_shown_code_has_1_to_32_bytes : show_of f l ≢ [] → (1 ≤ length (show_of f l)) × (length (show_of f l) ≤ most_bytes f)
    unfolding show_of
    a_shown_code_has_1_to_32_bytes = shown_bytes (kind_of f) f l

-- ---- a file that opens, wherever it comes from

module _ (f : List ℕ) (n r v : ℕ) (o : open_of f ≡ Ok (headed n r v)) where
  n_is : (header_in f).n ≡ n
  n_is = ap (λ (h : Header). h.n) ((opens_exactly_if_whole f n r v).0 o).0

  is_whole : Whole (kind_of f) (header_in f) f
  is_whole = let w = (opens_exactly_if_whole f n r v).0 o in rw w.0 w.1

  -- looking up gives a line exactly to the code that is stored there
  pub a_line_is_given_exactly_to_the_code_stored_there : (t : List ℕ) (l : ℕ) → (lookup_of f t ≡ Ok (Some l)) ↔ ((l < n) × (stored f l ≡ t))
  unfolding lookup_of
  a_line_is_given_exactly_to_the_code_stored_there = rw (← n_is) (lookup-stored (kind_of f) f is_whole)

  -- it gives Unknown exactly to the other codes of 1 to 32 bytes
  pub unknown_exactly_to_the_others : (t : List ℕ) → (lookup_of f t ≡ Ok None) ↔ ((1 ≤ length t) × (length t ≤ most_bytes f) × ((l : ℕ) → l < n → stored f l ≢ t))
  unfolding lookup_of
  unknown_exactly_to_the_others = rw (← n_is) (lookup_unknown (kind_of f) f is_whole)

  -- it refuses exactly what is empty or over 32 bytes, with 16 and the place 0
  pub refused_exactly_what_is_no_code : (t : List ℕ) (k : Reason) (p : ℕ) → (lookup_of f t ≡ refused k p) ↔ ((k ≡ WrongCode) × (p ≡ 0) × ((length t ≡ 0) ⊎ (most_bytes f < length t)))
  unfolding lookup_of
  refused_exactly_what_is_no_code = lookup_wrong (kind_of f) f is_whole

  -- it never gives 13
  pub thirteen_is_never_given : (t : List ℕ) (p : ℕ) → lookup_of f t ≢ refused WrongRank p
  thirteen_is_never_given t p e = let z : ◌≡◌ {A = ℕ} 13 16 = ap number_of ((refused_exactly_what_is_no_code t WrongRank p).0 e).0 in omega arith

  -- each stored code is found at its own line
  pub each_stored_code_is_found_at_its_line : (l : ℕ) → l < n → lookup_of f (stored f l) ≡ Ok (Some l)
  each_stored_code_is_found_at_its_line l m = (a_line_is_given_exactly_to_the_code_stored_there (stored f l) l).1 (m, refl)

  -- the codes of different lines differ
  pub stored_codes_differ : (k l : ℕ) → k < n → l < n → stored f k ≡ stored f l → k ≡ l
  stored_codes_differ = rw (← n_is) (stored_own (kind_of f) (header_in f) f is_whole)

  -- each line below n shows the code that is stored there, which is not empty
  pub each_line_shows_its_code : (l : ℕ) → l < n → (show_of f l ≡ stored f l) × (1 ≤ length (stored f l))
  unfolding show_of
  each_line_shows_its_code = rw (← n_is) (λ l m. (shows_stored (kind_of f) f is_whole l m, stored_some (kind_of f) (header_in f) f is_whole l m))

  -- the other lines show nothing
  pub the_other_lines_show_nothing : (l : ℕ) → n ≤ l → show_of f l ≡ []
  unfolding show_of
  the_other_lines_show_nothing = rw (← n_is) (shows_none (kind_of f) f is_whole)
