use Rattle.std.proofs.Common.{◌<◌, ◌-◌, ◌^◌, length, map, Ok, sym, ap, ◌∙◌, arith, List}
use Rattle.df_lang.specs.Drafts.{above}
use Rattle.df_lang.specs.Problems.{Named}
use Rattle.df_lang.specs.Stored.{named}
use Rattle.df_lang.proofs.NamePlaces.{grown, few_grown, short_grown, insert_new, named_push}
use Rattle.df_lang.proofs.draft.Draft.add_subgroup.Goals as goal

pub invariant_of-self-clause-few_names : goal.invariant_of-self-clause-few_names
invariant_of-self-clause-few_names c =
    let old = c.args.self.now.names.entries in
    let new = c.insert.new.self.entries in
    let few : length old < 2 ^ 32 - 1 = omega (arith, c.len.ensures.len, c.if-len.false) in
    few_grown old new (c.args.name, c.args.subgroup) (grown c.insert.result old new c.args.name c.args.subgroup c.insert.ensures.entries c.insert.ensures.err c.requires.absent) few

pub invariant_of-self-clause-short_names : goal.invariant_of-self-clause-short_names
invariant_of-self-clause-short_names c =
    let old = c.args.self.now.names.entries in
    let new = c.insert.new.self.entries in
    short_grown old new (c.args.name, c.args.subgroup) (grown c.insert.result old new c.args.name c.args.subgroup c.insert.ensures.entries c.insert.ensures.err c.requires.absent) c.args.self.now.short_names
    c.requires.short

pub returns : goal.returns
returns c =
    let old = c.args.self.now.names.entries in
    let more = c.in_ok-insert.ensures.entries ∙ insert_new old c.args.name c.args.subgroup c.requires.absent in
    ap (λ (l : List Named). Ok (record (above c.args.self.now) { names = l })) (sym (ap (map named) more ∙ named_push old (c.args.name, c.args.subgroup)))
