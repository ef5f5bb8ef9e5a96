use Rattle.std.proofs.Common.{◌∙◌, ap, sym, unwrap_or, []}
use Rattle.std.specs.Option.{option_copied}
use Rattle.tb_report.proofs.Unwrapped.{is_named}
use Rattle.tb_report.proofs.keyword.kwic.Goals as goal

pub unwrap-name-requires : goal.unwrap-name-requires
unwrap-name-requires g c = is_named c.args.block.now c.sent_id.result c.requires.rules c.sent_id.ensures

pub kwic_named-requires-clause-named : goal.kwic_named-requires-clause-named
kwic_named-requires-clause-named g c = sym (ap (λ o. unwrap_or o []) (sym c.sent_id.ensures ∙ ap option_copied c.unwrap-name.ensures))
