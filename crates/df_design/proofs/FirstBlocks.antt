-- The blocks of an increasing list that come after one.
use Rattle.std.proofs.Common.{◌≡◌, ℕ, Bool, true, false, List, [], ◌∷◌, ◌++◌, ◌+◌, ◌<◌, length, get_or, drop, filter, Option, None, Some, refl, sym, ap, ◌∙◌, subst, inl, inr, ◌⊎◌, ⊎_elim}
use Rattle.std.proofs.lemmas.Bool.{false≢true}
use Rattle.std.proofs.lemmas.List.{drop_more}
use Rattle.df_lists.specs.Membership.{In}
use Rattle.df_lists.specs.Orders.{IsOrder, IsSorted}
use Rattle.df_lists.proofs.MemberLaws.{In-filter, In-filter_gives}
use Rattle.df_lists.proofs.SortedLists.{sorted-filter, sorted_same}
use Rattle.df_subsets.specs.Blocks.{before}
use Rattle.df_design.specs.LeftBlocks.{is_after}

module _ (O : IsOrder before) where
  -- what comes after a block that comes after the last one does too
  after_onward : (last : Option (List ℕ)) (b y : List ℕ) → is_after last b ≡ true → before b y ≡ true → is_after last y ≡ true
  after_onward None b y h l = refl
  after_onward (Some a) b y h l = O.onward a b y h l

  -- what follows the first block of those after the last one are those after it
  pub after_first : (blocks : List (List ℕ)) (last : Option (List ℕ)) (b : List ℕ) (rest : List (List ℕ)) → IsSorted before blocks → filter (is_after last) blocks ≡ b ∷ rest
      → filter (is_after (Some b)) blocks ≡ rest
  after_first blocks last b rest sorted e =
      sorted_same before O (filter (is_after (Some b)) blocks) rest (sorted-filter before (is_after (Some b)) blocks sorted) order.1
      (λ y i. let r = In-filter_gives (before b) blocks y i in later y r.1 (subst (λ l. In l y) e (In-filter (is_after last) blocks y r.0 (after_onward last b y here.1 r.1))))
      (λ y i. In-filter (before b) blocks y (In-filter_gives (is_after last) blocks y (subst (λ l. In l y) (sym e) (inr i))).0 (order.0 y i))
    where
      order : IsSorted before (b ∷ rest)
      order = subst (IsSorted before) e (sorted-filter before (is_after last) blocks sorted)

      here : In blocks b × (is_after last b ≡ true)
      here = In-filter_gives (is_after last) blocks b (subst (λ l. In l b) (sym e) (inl refl))

      later : (y : List ℕ) → before b y ≡ true → In (b ∷ rest) y → In rest y
      later y h (inl k) = absurd (false≢true (sym (O.unlike b) ∙ subst (λ w. before b w ≡ true) (sym k) h))
      later y h (inr i) = i

  -- the block at a place of the ready ones that begin what is left is the first of what is left
  pub left_after : (blocks : List (List ℕ)) (last : Option (List ℕ)) (b : List ℕ) (ready rest : List (List ℕ)) (place : ℕ) → IsSorted before blocks → place < length ready → b ≡ get_or ready place b
      → filter (is_after last) blocks ≡ drop place ready ++ rest
      → (filter (is_after (Some b)) blocks ≡ drop (place + 1) ready ++ rest) × (filter (is_after last) blocks ≡ b ∷ filter (is_after (Some b)) blocks)
  left_after blocks last b ready rest place sorted l at joined =
      let here : drop place ready ≡ b ∷ drop (place + 1) ready = drop_more ready place b l ∙ ap (λ x. x ∷ drop (place + 1) ready) (sym at) in
      let first : filter (is_after last) blocks ≡ b ∷ (drop (place + 1) ready ++ rest) = joined ∙ ap (λ l. l ++ rest) here in
      let after = after_first blocks last b (drop (place + 1) ready ++ rest) sorted first in
      (after, first ∙ ap (λ l. b ∷ l) (sym after))

-- before any block was handed out, all are left
pub after_none : (blocks : List (List ℕ)) → filter (is_after None) blocks ≡ blocks
after_none [] = refl
after_none (b ∷ blocks) = ap (λ l. b ∷ l) (after_none blocks)
