-- The files of the page, as the folder page/ has them.
use Rattle.std.specs.Prelude.{ℕ, List}
use Rattle.tb_assets.specs.declared.files.rows.TheConstants.{ROWS_JS}
use Rattle.tb_assets.specs.declared.files.style.TheConstants.{PAGE_CSS}
use Rattle.tb_assets.specs.declared.files.tree.TheConstants.{TREE_JS}
use Rattle.tb_assets.specs.declared.files.conllu.TheConstants.{CONLLU_JS}
use Rattle.tb_assets.specs.declared.files.desk.TheConstants.{DESK_JS}
use Rattle.tb_assets.specs.declared.files.edit.TheConstants.{EDIT_JS}
use Rattle.tb_assets.specs.declared.files.find.TheConstants.{FIND_JS}
use Rattle.tb_assets.specs.declared.files.index.TheConstants.{INDEX_HTML}
use Rattle.tb_assets.specs.declared.files.page.TheConstants.{PAGE_JS}
use Rattle.tb_page.specs.declared.heads.Kind.{Kind}
use Rattle.tb_page.specs.declared.heads.Kind.TheVariants.{Html, Css, JavaScript}
use Rattle.tb_page.specs.declared.paths.File.{File}
use Rattle.tb_page.specs.declared.paths.File.TheVariants as file

-- the text of a file
abbrev pub file_text : File → List ℕ
file_text file.Index = INDEX_HTML.now
file_text file.Style = PAGE_CSS.now
file_text file.Desk = DESK_JS.now
file_text file.Rows = ROWS_JS.now
file_text file.Conllu = CONLLU_JS.now
file_text file.Tree = TREE_JS.now
file_text file.Edit = EDIT_JS.now
file_text file.Find = FIND_JS.now
file_text file.Page = PAGE_JS.now

-- the type of a file
abbrev pub file_kind : File → Kind
file_kind file.Index = Html
file_kind file.Style = Css
file_kind _ = JavaScript
