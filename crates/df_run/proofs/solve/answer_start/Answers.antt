use Rattle.std.proofs.Common.{◌≡◌, [], IsSome, refl, sym, ap, subst, inl, ◌∙◌}
use Rattle.df_walk.specs.declared.Rules.TheVariants.{Divisor}
use Rattle.df_runs.specs.Runs.{run_of}
use Rattle.df_kramer_mesner.specs.OrbitSystems.{orbit_system}
use Rattle.df_run.specs.Answers.{listing_answer}
use Rattle.df_run.specs.Endings.{RepliesOr}
use Rattle.df_run.specs.Streams.{outgoing}
use Rattle.df_run.proofs.Listings.{told_as_listing, told_as_dossier}
use Rattle.df_run.proofs.solve.answer_start.Goals as goal

pub answer_listing-requires-clause-search : goal.answer_listing-requires-clause-search
answer_listing-requires-clause-search g c =
    let is = c.in-Ok.ensures.value in record { problem = ap (λ d. d.problem) is ∙ c.requires.matrix; system = ap (λ d. d.search.system) is ∙ ap orbit_system c.requires.matrix }

pub answer_listing-requires-clause-begins : goal.answer_listing-requires-clause-begins
answer_listing-requires-clause-begins g c = c.in-Ok.ensures.stands.search

pub answer_designs-requires : goal.answer_designs-requires
answer_designs-requires g c =
    let is = c.in-Ok.ensures.value in
    record {
      problem = ap (λ d. d.problem) is ∙ c.requires.matrix;
      system = ap (λ d. d.search.system) is ∙ ap orbit_system c.requires.matrix;
      rules_are = ap (λ d. d.search.rules) is;
      place = subst IsSome (sym c.in-Ok.ensures.stands.search.place) refl;
    }

pub returns-then-options-clause-reply : goal.returns-then-options-clause-reply
returns-then-options-clause-reply g c =
    let s = c.args.problem.now in
    let o = outgoing g.O.Sink.written g.O.Sink.faults c.args.out.now c.answer_listing.new.out in
    let rules : c.in-Ok.designs.search.rules ≡ Divisor = ap (λ d. d.search.rules) c.in-Ok.ensures.value in
    subst (λ a. RepliesOr a o c.answer_listing.result) (sym (told_as_listing s c.args.options c.if-options.true))
    (subst (λ t. RepliesOr (listing_answer s c.args.options (run_of t (orbit_system s) [] c.args.options.budget)) o c.answer_listing.result) rules c.answer_listing.ensures.reply)

pub returns-clause-reply : goal.returns-clause-reply
returns-clause-reply g c =
    let s = c.args.problem.now in
    let o = outgoing g.O.Sink.written g.O.Sink.faults c.args.out.now c.answer_designs.new.out in
    subst (λ a. RepliesOr a o c.answer_designs.result) (sym (told_as_dossier s c.args.options c.if-options.false)) (inl (c.answer_designs.ensures.reply [] c.in-Ok.ensures.stands.search.place))
