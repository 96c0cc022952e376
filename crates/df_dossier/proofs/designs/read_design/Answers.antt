use Rattle.std.proofs.Common.{rules, ◌≡◌, ◌∷◌, [], List, ℕ, Option, Err, Some, None, true, not, option_map, is_some, codes, sym, ap, ◌∙◌}
use Rattle.df_io.specs.Lines.{left, tokens_of}
use Rattle.df_lang.specs.Problems.{Stated}
use Rattle.df_dossier.specs.declared.designs.DesignRead.TheVariants.{Bad}
use Rattle.df_dossier.specs.Tokens.{◌>>?◌}
use Rattle.df_dossier.specs.Paths.{past}
use Rattle.df_dossier.specs.Designs.{design_of, blocks_read}
use Rattle.df_dossier.specs.DesignSteps.{Drafted, drafted}
use Rattle.df_dossier.proofs.Drafts.{begun, whole, not_whole}
use Rattle.df_dossier.proofs.designs.read_design.Goals as goal

-- a design line with a token behind its word
worded : (s : Stated) (line token : List ℕ) (tokens after rest : List (List ℕ)) (r : Option (Unit {0})) (draft : Drafted)
    → tokens ≡ tokens_of line → past (codes "design") tokens ≡ option_map (λ _. after) r → is_some r ≡ true → after ≡ token ∷ rest → draft ≡ record { blocks = []; points = [] }
    → drafted s draft (token ∷ rest) ≡ design_of s line
worded s line token tokens after rest None draft all is some first empty = absurd (cc)
worded s line token tokens after rest (Some u) draft all is some first empty =
    ap (λ d. drafted s d (token ∷ rest)) empty ∙ begun s token rest ∙ ap (blocks_read s) (sym first) ∙ ap (λ o. o >>? blocks_read s) (sym is) ∙ ap (λ ts. past (codes "design") ts >>? blocks_read s) all

pub returns-in_err-take-clause-bad : goal.returns-in_err-take-clause-bad
returns-in_err-take-clause-bad c bad =
    let same : c.take.result ≡ Err Bad = search rules in
    let start = worded c.args.problem.now c.args.line.now c.in-Some.first.now (left c.new-tokens.result) (left c.past.new.tokens) (left c.next_token.new.self) c.past.result c.new-draft.result c.new-tokens.ensures.left c.past.ensures (c.is_none.ensures ∙ ap not c.if-is_none.false) c.in-Some.ensures c.new-draft.ensures in
    sym start ∙ c.take.ensures.bad same (left c.next_token.new.self)

pub loop-token-init : goal.loop-token-init
loop-token-init c =
    let start = worded c.args.problem.now c.args.line.now c.in-Some.first.now (left c.new-tokens.result) (left c.past.new.tokens) (left c.next_token.new.self) c.past.result c.new-draft.result c.new-tokens.ensures.left c.past.ensures (c.is_none.ensures ∙ ap not c.if-is_none.false) c.in-Some.ensures c.new-draft.ensures in
    sym (c.in_ok-take.ensures.ok (left c.next_token.new.self)) ∙ start

pub returns-in_err-close-clause-bad : goal.returns-in_err-close-clause-bad
returns-in_err-close-clause-bad c bad =
    let same : c.close.result ≡ Err Bad = search rules in
    sym c.loop-token.invariant ∙ ap (drafted c.args.problem.now c.loop-token.draft) c.in_default-next_token.ensures
    ∙ not_whole c.args.problem.now c.loop-token.draft.blocks c.loop-token.draft.points (c.close.ensures.bad same)

pub returns-clause-ok : goal.returns-clause-ok
returns-clause-ok c =
    let is = c.in_ok-close.ensures.ok in
    sym c.loop-token.invariant ∙ ap (drafted c.args.problem.now c.loop-token.draft) c.in_default-next_token.ensures
    ∙ whole c.args.problem.now c.loop-token.draft.blocks c.loop-token.draft.points is.0
    ∙ ap Some (sym (ap (λ (d : Drafted). d.blocks) (c.draft-3.view_is ∙ is.1)))
