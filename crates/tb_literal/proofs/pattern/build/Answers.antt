use Rattle.std.proofs.Common.{◌≡◌, ap, sym, ◌∙◌}
use Rattle.regex.specs.Patterns.{default_config}
use Rattle.regex.specs.Strings.{regex_config, regex_source}
use Rattle.regex.specs.Views.{builder_source, builder_size_limit}
use Rattle.tb_literal.specs.Patterns.{IsPattern}
use Rattle.tb_literal.proofs.PatternLemmas.{pattern_of_reads, outside_by, means_as_built, limited}
use Rattle.tb_literal.proofs.pattern.build.Goals as goal

source_is : (c : goal.In-Ok) → regex_source c.in-Ok.regex ≡ c.args.source.now
source_is c = c.in-Ok.ensures.source ∙ ap builder_source c.size_limit.ensures ∙ c.new.ensures.source

config_is : (c : goal.In-Ok) → regex_config c.in-Ok.regex ≡ default_config
config_is c = c.in-Ok.ensures.config ∙ limited c.size_limit.result c.new.result c.args.most c.size_limit.ensures c.new.ensures.config

is_pattern : (c : goal.In-Ok) → IsPattern c.args.source.now
is_pattern c =
    pattern_of_reads c.args.source.now _ _ (rw (source_is c, config_is c) at c.in-Ok.ensures.read)

pub returns-in-Ok-clause-pattern : goal.returns-in-Ok-clause-pattern
returns-in-Ok-clause-pattern = is_pattern

pub returns-in-Ok-clause-means : goal.returns-in-Ok-clause-means
returns-in-Ok-clause-means c =
    means_as_built c.in-Ok.regex c.args.source.now (source_is c) (config_is c) c.in-Ok.ensures.read (is_pattern c)

pub returns-in-Ok-clause-small : goal.returns-in-Ok-clause-small
returns-in-Ok-clause-small c = rw (ap builder_size_limit c.size_limit.ensures) at c.in-Ok.ensures.small

pub returns-in-Err-clause-refused : goal.returns-in-Err-clause-refused
returns-in-Err-clause-refused c syntax =
    let config = limited c.size_limit.result c.new.result c.args.most c.size_limit.ensures c.new.ensures.config in
    let source = ap builder_source c.size_limit.ensures ∙ c.new.ensures.source in
    outside_by c.args.source.now c.in-Err.error (rw (config, source) at c.in-Err.ensures.by_grammar) (rw (config, source) at c.in-Err.ensures.kind) (sym c.fault_of_build.ensures ∙ syntax)
