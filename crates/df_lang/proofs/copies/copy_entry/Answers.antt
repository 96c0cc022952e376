use Rattle.std.proofs.Common.{◌∙◌, sym, ap, map, arith}
use Rattle.std.proofs.lemmas.List.{length-map}
use Rattle.df_lang.specs.Stored.{named}
use Rattle.df_lang.proofs.NamesCopied.{copied_more}
use Rattle.df_lang.proofs.copies.copy_entry.Goals as goal

pub returns : goal.returns
returns c =
    let es = c.args.names.now.entries in
    let within = c.requires.place in
    ap (map named) c.in_ok-insert.ensures.entries
    ∙ copied_more es c.args.copy.now.entries c.args.place c.in-Some.key.now c.name.result c.in-Some.subgroup.now (sym c.in-Some.ensures.entry) (c.name.ensures ∙ c.as_slice.ensures.value) c.requires.apart (omega (arith, within, length-map es named)) c.requires.first
