-- A path is a node, or there is a reason why it isn't one.
use Rattle.std.proofs.Common.{◌≡◌, ℕ, ◌<◌, ◌≤◌, Bool, true, false, not, List, [], length, take, find, replicate, Option, Some, None, refl, sym, ap, ◌∙◌, arith}
use Rattle.std.specs.Option.{option_or, option_map}
use Rattle.std.specs.List.{range_with_len}
use Rattle.std.proofs.lemmas.Bool.{true≢false, and_parts, not-true}
use Rattle.std.proofs.lemmas.List.{length-replicate}
use Rattle.df_lists.proofs.RangeLaws.{none_in_range}
use Rattle.df_walk.specs.declared.Rules.{Rules}
use Rattle.df_walk.specs.declared.Entry.{Entry}
use Rattle.df_walk.specs.declared.Entry.TheVariants as entry
use Rattle.df_walk.specs.Systems.{System}
use Rattle.df_walk.specs.Assignments.{is_settled, least_row}
use Rattle.df_walk.specs.Walks.{decided, entry_at}
use Rattle.df_walk.specs.Paths.{is_live, settled_before, is_node}
use Rattle.df_walk.proofs.EntryMeanings.{Says, entry_says}
use Rattle.df_walk.proofs.DeadPaths.{counts, live_counts}
use Rattle.df_walk.proofs.RowTests.{least_row_is, least_row_passes}
use Rattle.df_search.specs.declared.Why.{Why}
use Rattle.df_search.specs.declared.Why.TheVariants.{SettledBefore, Over, Under, Residue}
use Rattle.df_search.specs.Resumptions.{IsFirstSettled, IsWhy}
use Rattle.df_search.specs.Reasons.{first_settled, against, why_no_node, HasReason}
use Rattle.df_search.proofs.FollowedPaths.{unsettled, settled_between_at, entry_node}

-- a system with a row for each number below n, and no columns
abbrev rows_below : ℕ → System
rows_below n = record { targets = replicate n 0; columns = [] }

module _ (rules : Rules) (s : System) (p : List Bool) where
  -- the prefix of a length is settled
  abbrev at_length : ℕ → Bool
  at_length n = is_settled s (decided (take n p))

  many : length (replicate {A = ℕ} (length p) 0) ≡ length p
  many = length-replicate (length p) 0

  -- what is found among the lengths of proper prefixes is the least row of a system with as many rows
  as_row : first_settled s p ≡ least_row (rows_below (length p)) at_length
  as_row = ap (λ n. find at_length (range_with_len 0 n)) (sym many)

  -- the least length of a settled proper prefix is found
  found_first : (n : ℕ) → IsFirstSettled s p n → first_settled s p ≡ Some n
  found_first n first = as_row ∙ least_row_is (rows_below (length p)) at_length n (omega (arith, first.proper, many)) first.settled first.others

  is_first : (n : ℕ) → first_settled s p ≡ Some n → IsFirstSettled s p n
  is_first n found =
      let at = least_row_passes (rows_below (length p)) at_length n (sym as_row ∙ found) in record {
        proper = omega (arith, at.0.0, many);
        settled = at.0.1;
        others = at.1;
      }

  none_settled : first_settled s p ≡ None → settled_before s p ≡ false
  none_settled none = unsettled s p (λ k lt. none_in_range at_length 0 (length p) k none (omega arith) (omega (arith, lt)))

  node_unsettled : is_node rules s p ≡ true → settled_before s p ≡ false
  node_unsettled node = not-true (settled_before s p) (and_parts (is_live rules s (decided p)) (not (settled_before s p)) node).1

  unsettled_first : settled_before s p ≡ false → first_settled s p ≡ None
  unsettled_first none = go (first_settled s p) refl
    where
      go : (o : Option ℕ) → first_settled s p ≡ o → first_settled s p ≡ None
      go None is = is
      go (Some n) is = let first = is_first n is in absurd (true≢false (sym (settled_between_at s [] p n first.proper first.settled) ∙ none))

  -- the reason, by its two parts
  reason_is : (o : Option ℕ) (e : Entry) → first_settled s p ≡ o → entry_at rules s p ≡ e → why_no_node rules s p ≡ option_or (option_map SettledBefore o) (against e)
  reason_is o e a b = ap (λ o. option_or (option_map SettledBefore o) (against (entry_at rules s p))) a ∙ ap (λ e. option_or (option_map SettledBefore o) (against e)) b

  -- an entry with nothing against it counts
  counts_for : (e : Entry) → Says rules s p e → against e ≡ None → counts e ≡ true
  counts_for (entry.Over row) says none = absurd (let h = none in cc)
  counts_for (entry.Under row) says none = absurd (let h = none in cc)
  counts_for (entry.Residue row m) says none = absurd (let h = none in cc)
  counts_for (entry.Cut ws) says none = absurd says
  counts_for entry.Settled says none = refl
  counts_for (entry.Branch column) says none = refl

  -- and one that counts has nothing against it
  nothing_against : (e : Entry) → counts e ≡ true → against e ≡ None
  nothing_against (entry.Over row) live = absurd (true≢false (sym live))
  nothing_against (entry.Under row) live = absurd (true≢false (sym live))
  nothing_against (entry.Residue row m) live = absurd (true≢false (sym live))
  nothing_against (entry.Cut ws) live = absurd (true≢false (sym live))
  nothing_against entry.Settled live = refl
  nothing_against (entry.Branch column) live = refl

  no_reason : why_no_node rules s p ≡ None → is_node rules s p ≡ true
  no_reason none = go (first_settled s p) refl
    where
      go : (o : Option ℕ) → first_settled s p ≡ o → is_node rules s p ≡ true
      go None is = entry_node rules s p (entry_at rules s p) refl (counts_for (entry_at rules s p) (entry_says rules s p) (sym (reason_is None (entry_at rules s p) is refl) ∙ none)) (none_settled is)
      go (Some n) is = absurd (let h = sym (reason_is (Some n) (entry_at rules s p) is refl) ∙ none in cc)

  node_lives : is_node rules s p ≡ true → counts (entry_at rules s p) ≡ true
  node_lives node = sym (live_counts rules s p (entry_at rules s p) (entry_says rules s p)) ∙ (and_parts (is_live rules s (decided p)) (not (settled_before s p)) node).0

  node_reason : is_node rules s p ≡ true → why_no_node rules s p ≡ None
  node_reason node = reason_is None (entry_at rules s p) (unsettled_first (node_unsettled node)) refl ∙ nothing_against (entry_at rules s p) (node_lives node)

  why_reason : (why : Why) → IsWhy rules s p why → why_no_node rules s p ≡ Some why
  why_reason (SettledBefore n) first = reason_is (Some n) (entry_at rules s p) (found_first n first) refl
  why_reason (Over row) h = reason_is None (entry.Over row) (unsettled_first h.0) h.1
  why_reason (Under row) h = reason_is None (entry.Under row) (unsettled_first h.0) h.1
  why_reason (Residue row) h = reason_is None (entry.Residue row h.1.0) (unsettled_first h.0) h.1.1

pub has_reason : (rules : Rules) (s : System) (p : List Bool) → HasReason rules s p
has_reason rules s p = record { node = (no_reason rules s p, node_reason rules s p); why = why_reason rules s p }
