use Rattle.std.proofs.Common.{◌++◌, ◌∙◌, ap}
use Rattle.tb_assets.specs.declared.files.style.TheConstants.{PAGE_CSS}
use Rattle.tb_assets.specs.declared.parts.TheConstants.{TREES_BODY, TREES_HEAD}
use Rattle.tb_assets.proofs.Grown.{one_more}
use Rattle.tb_assets.proofs.trees.push_head.Goals as goal

pub returns : goal.returns
returns c =
    let old = c.args.page.now.items in
    let one = c.in_ok-extend_from_slice.ensures.items ∙ ap (λ l. old ++ l) c.as_bytes.ensures.value in
    let two = one_more old c.extend_from_slice.new.self.items c.extend_from_slice-2.new.self.items TREES_HEAD.now c.as_bytes-2.result.now PAGE_CSS.now one c.in_ok-extend_from_slice-2.ensures.items c.as_bytes-2.ensures.value in
    one_more old c.extend_from_slice-2.new.self.items c.extend_from_slice-3.new.self.items (TREES_HEAD.now ++ PAGE_CSS.now) c.as_bytes-3.result.now TREES_BODY.now two c.in_ok-extend_from_slice-3.ensures.items c.as_bytes-3.ensures.value
