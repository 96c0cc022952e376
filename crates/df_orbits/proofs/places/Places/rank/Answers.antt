use Rattle.std.proofs.Common.{◌≡◌, ◌<◌, ◌≤◌, ◌+◌, ◌-◌, ◌*◌, ◌∙◌, ℕ, ap, ap₂, sym, subst, arith, length, drop, get_or, slice_get}
use Rattle.std.proofs.lemmas.List.{get_or_read}
use Rattle.df_lists.specs.NumberSets.{IsSet}
use Rattle.df_subsets.specs.Subsets.{subsets, rank, binomial}
use Rattle.df_subsets.proofs.Places.{later, rank_below, at_rank}
use Rattle.df_orbits.proofs.LaterCounts.{later_place, later_found, later_few, later_whole}
use Rattle.df_orbits.proofs.places.Places.rank.Goals as goal

pub loop-p-init : goal.loop-p-init
loop-p-init c = record {
  items = c.as_slice-p-items.ensures.value ∙ c.points-points.ensures.list;
  row = omega arith;
  counted = omega arith;
}

pub index-requires : goal.index-requires
index-requires c =
    let own = c.self.inside in
    let b = c.args.block.now in
    let i = c.loop-p.p-index in
    let x = c.p-item.result in
    let block = subst (λ v. IsSet v b) (sym (ap (λ (p : ℕ × ℕ). p.0) c.self.view_is)) c.requires.within in
    let size = c.requires.size ∙ sym (ap (λ (p : ℕ × ℕ). p.1) c.self.view_is) in
    let inside : i < length b = omega (arith, c.loop-p-test.true, ap length c.loop-p.invariant.items) in
    let at = subst (λ l. x ≡ get_or l i x) c.loop-p.invariant.items c.p-item.is in
    let place : c.loop-p.row + c.from.result ≡ i * own.points + x = ap₂ (λ a b. a + b) (c.loop-p.invariant.row ∙ ap (λ w. i * w) c.from-width.ensures) (c.from.ensures ∙ c.p.view_is) in
    omega (arith, later_place own.points own.size own.all own.later.items c.self.invariant b block size i x inside at, place, own.later.ok.0)

pub overflow_add-later : goal.overflow_add-later
overflow_add-later c =
    let own = c.self.inside in
    let b = c.args.block.now in
    let i = c.loop-p.p-index in
    let x = c.p-item.result in
    let y = c.index.result.now in
    let table = own.later.items in
    let block = subst (λ v. IsSet v b) (sym (ap (λ (p : ℕ × ℕ). p.0) c.self.view_is)) c.requires.within in
    let size = c.requires.size ∙ sym (ap (λ (p : ℕ × ℕ). p.1) c.self.view_is) in
    let inside : i < length b = omega (arith, c.loop-p-test.true, ap length c.loop-p.invariant.items) in
    let at = subst (λ l. x ≡ get_or l i x) c.loop-p.invariant.items c.p-item.is in
    let place : c.loop-p.row + c.from.result ≡ i * own.points + x = ap₂ (λ a b. a + b) (c.loop-p.invariant.row ∙ ap (λ w. i * w) c.from-width.ensures) (c.from.ensures ∙ c.p.view_is) in
    let within = later_place own.points own.size own.all own.later.items c.self.invariant b block size i x inside at in
    let read = get_or_read table (c.loop-p.row + c.from.result) y (subst (λ k. k < length table) (sym place) within) c.index.ensures 0 ∙ ap (λ k. get_or table k 0) place in
    let found = subst (λ w. later w (drop i b) ≡ y + later w (drop (i + 1) b)) (sym c.from-width.ensures) (later_found own.points own.size own.all table c.self.invariant b block size i x inside at y read) in
    let few = subst (λ w. later w b < own.all) (sym c.from-width.ensures) (later_few own.points own.size own.all table c.self.invariant b block size) in
    omega (arith, c.loop-p.invariant.counted, found, few, c.self.invariant.few)

pub loop-p-preserved : goal.loop-p-preserved
loop-p-preserved c =
    let own = c.self.inside in
    let b = c.args.block.now in
    let i = c.loop-p.p-index in
    let x = c.p-item.result in
    let y = c.index.result.now in
    let table = own.later.items in
    let block = subst (λ v. IsSet v b) (sym (ap (λ (p : ℕ × ℕ). p.0) c.self.view_is)) c.requires.within in
    let size = c.requires.size ∙ sym (ap (λ (p : ℕ × ℕ). p.1) c.self.view_is) in
    let inside : i < length b = omega (arith, c.loop-p-test.true, ap length c.loop-p.invariant.items) in
    let at = subst (λ l. x ≡ get_or l i x) c.loop-p.invariant.items c.p-item.is in
    let place : c.loop-p.row + c.from.result ≡ i * own.points + x = ap₂ (λ a b. a + b) (c.loop-p.invariant.row ∙ ap (λ w. i * w) c.from-width.ensures) (c.from.ensures ∙ c.p.view_is) in
    let within = later_place own.points own.size own.all own.later.items c.self.invariant b block size i x inside at in
    let read = get_or_read table (c.loop-p.row + c.from.result) y (subst (λ k. k < length table) (sym place) within) c.index.ensures 0 ∙ ap (λ k. get_or table k 0) place in
    let found = subst (λ w. later w (drop i b) ≡ y + later w (drop (i + 1) b)) (sym c.from-width.ensures) (later_found own.points own.size own.all table c.self.invariant b block size i x inside at y read) in
    record {
      items = c.loop-p.invariant.items;
      row = omega (arith, c.loop-p.invariant.row);
      counted = omega (arith, c.loop-p.invariant.counted, found);
    }

pub overflow_sub-result : goal.overflow_sub-result
overflow_sub-result c =
    let own = c.self.inside in
    let b = c.args.block.now in
    let block = subst (λ v. IsSet v b) (sym (ap (λ (p : ℕ × ℕ). p.0) c.self.view_is)) c.requires.within in
    let size = c.requires.size ∙ sym (ap (λ (p : ℕ × ℕ). p.1) c.self.view_is) in
    omega (arith, later_few own.points own.size own.all own.later.items c.self.invariant b block size)

pub overflow_sub-result-2 : goal.overflow_sub-result-2
overflow_sub-result-2 c =
    let own = c.self.inside in
    let b = c.args.block.now in
    let block = subst (λ v. IsSet v b) (sym (ap (λ (p : ℕ × ℕ). p.0) c.self.view_is)) c.requires.within in
    let size = c.requires.size ∙ sym (ap (λ (p : ℕ × ℕ). p.1) c.self.view_is) in
    let few = subst (λ w. later w b < own.all) (sym c.from-width.ensures) (later_few own.points own.size own.all own.later.items c.self.invariant b block size) in
    omega (arith, c.loop-p.invariant.counted, few)

pub returns : goal.returns
returns c =
    let own = c.self.inside in
    let b = c.args.block.now in
    let v = c.args.self.now.0 in
    let k = c.args.self.now.1 in
    let block = subst (λ v. IsSet v b) (sym (ap (λ (p : ℕ × ℕ). p.0) c.self.view_is)) c.requires.within in
    let size = c.requires.size ∙ sym (ap (λ (p : ℕ × ℕ). p.1) c.self.view_is) in
    let end : length b ≤ c.loop-p.p-index = omega (arith, c.loop-p-test.false, ap length c.loop-p.invariant.items) in
    let counted = subst (λ w. c.loop-p.later + later w (drop c.loop-p.p-index b) ≡ later w b) c.from-width.ensures c.loop-p.invariant.counted in
    let is : own.all - 1 - c.loop-p.later ≡ rank v b = (later_whole own.points own.size own.all own.later.items c.self.invariant b block size c.loop-p.later c.loop-p.p-index end counted).1 ∙ ap (λ w. rank w b) (ap (λ (p : ℕ × ℕ). p.0) c.self.view_is) in
    record {
      rank = is;
      place = ap (slice_get (subsets v k)) is ∙ at_rank v k b c.requires.within c.requires.size;
      below = subst (λ r. r < binomial v k) (sym is) (rank_below v k b c.requires.within c.requires.size);
    }
