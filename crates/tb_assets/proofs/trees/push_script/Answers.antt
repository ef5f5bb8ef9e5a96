use Rattle.std.proofs.Common.{◌++◌, ◌∙◌, ap}
use Rattle.tb_assets.specs.declared.files.rows.TheConstants.{ROWS_JS}
use Rattle.tb_assets.specs.declared.files.tree.TheConstants.{TREE_JS}
use Rattle.tb_assets.specs.declared.parts.TheConstants.{TREES_JS, TREES_SCRIPT}
use Rattle.tb_assets.proofs.Grown.{one_more}
use Rattle.tb_assets.proofs.trees.push_script.Goals as goal

pub returns : goal.returns
returns c =
    let old = c.args.page.now.items in
    let one = c.in_ok-extend_from_slice.ensures.items ∙ ap (λ l. old ++ l) c.as_bytes.ensures.value in
    let two = one_more old c.extend_from_slice.new.self.items c.extend_from_slice-2.new.self.items TREES_SCRIPT.now c.as_bytes-2.result.now ROWS_JS.now one c.in_ok-extend_from_slice-2.ensures.items c.as_bytes-2.ensures.value in
    let three = one_more old c.extend_from_slice-2.new.self.items c.extend_from_slice-3.new.self.items (TREES_SCRIPT.now ++ ROWS_JS.now) c.as_bytes-3.result.now TREE_JS.now two c.in_ok-extend_from_slice-3.ensures.items c.as_bytes-3.ensures.value in
    one_more old c.extend_from_slice-3.new.self.items c.extend_from_slice-4.new.self.items (TREES_SCRIPT.now ++ ROWS_JS.now ++ TREE_JS.now) c.as_bytes-4.result.now TREES_JS.now three c.in_ok-extend_from_slice-4.ensures.items c.as_bytes-4.ensures.value
