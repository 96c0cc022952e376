use Rattle.std.proofs.Common.{sym, ap, ◌∙◌, arith}
use Rattle.df_io.specs.Lines.{left}
use Rattle.df_lists.proofs.RisingLists.{Rises-more}
use Rattle.df_lang.specs.Values.{sizes_from}
use Rattle.df_lang.proofs.SizesRise.{sizes_step}
use Rattle.df_lang.proofs.sizes.more_sizes.Goals as goal

pub loop-token-preserved : goal.loop-token-preserved
loop-token-preserved c =
    let most = c.args.most in
    let set = c.loop-token.set in
    let k = c.in_ok-k.k in
    let rest = left c.next_token.new.self in (
      ap (λ l. sizes_from most l rest) c.insert.ensures.list
          ∙ sizes_step most k set c.in-Some.token.now rest c.in_ok-k.ensures.value
          ∙ ap (sizes_from most set) (sym c.in-Some.ensures)
          ∙ c.loop-token.invariant.0,
      rw c.insert.ensures.list (Rises-more 2 17 k set c.in_ok-k.ensures.range.0 (omega (arith, c.in_ok-k.ensures.range.1, c.requires.most)) c.loop-token.invariant.1),
    )
