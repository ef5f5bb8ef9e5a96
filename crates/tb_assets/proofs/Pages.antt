-- The ends of the parts of a page of trees.
use Rattle.std.proofs.Common.{◌≡◌, ℕ, List, ◌++◌, take, drop, codes, refl, sym, ap, ◌∙◌, append_assoc}
use Rattle.std.proofs.lemmas.List.{take-append-drop}
use Rattle.tb_assets.specs.declared.files.rows.TheConstants.{ROWS_JS}
use Rattle.tb_assets.specs.declared.files.style.TheConstants.{PAGE_CSS}
use Rattle.tb_assets.specs.declared.files.tree.TheConstants.{TREE_JS}
use Rattle.tb_assets.specs.declared.parts.TheConstants.{TREES_BODY, TREES_END, TREES_HEAD, TREES_JS, TREES_SCRIPT}
use Rattle.tb_assets.specs.Trees.{escaped, trees_head, trees_page, trees_script}

-- the number of bytes before the element of the sentences
abbrev front : ℕ
front = 473

body_is : drop front TREES_BODY.now ≡ codes "<pre id=\"conllu\">"
body_is = refl

body_parts : TREES_BODY.now ≡ take front TREES_BODY.now ++ codes "<pre id=\"conllu\">"
body_parts = sym (take-append-drop front TREES_BODY.now) ∙ ap (λ d. take front TREES_BODY.now ++ d) body_is

-- what comes first and last, put together in another order
regroup : (h c d p x s r t j z : List ℕ) → (h ++ c ++ (d ++ p)) ++ x ++ (s ++ r ++ t ++ j) ++ z ≡ (h ++ c ++ d) ++ p ++ x ++ s ++ (r ++ t ++ j ++ z)
regroup h c d p x s r t j z = simp append_assoc

script_is : TREES_SCRIPT.now ≡ codes "</pre>\n</main>\n<script type=\"module\">\n"
script_is = refl

end_is : TREES_END.now ≡ codes "</script>\n</body>\n</html>\n"
end_is = refl

pub begins : (text : List ℕ) → take 16 (trees_page text) ≡ codes "<!doctype html>\n"
unfolding trees_page
begins text = refl

pub sentences : (text : List ℕ) → (before : List ℕ) × (after : List ℕ) × (trees_page text ≡ before ++ codes "<pre id=\"conllu\">" ++ escaped text ++ codes "</pre>\n</main>\n<script type=\"module\">\n" ++ after)
unfolding trees_page
sentences text = (
  TREES_HEAD.now ++ PAGE_CSS.now ++ take front TREES_BODY.now,
  ROWS_JS.now ++ TREE_JS.now ++ TREES_JS.now ++ TREES_END.now,
  ap (λ b. (TREES_HEAD.now ++ PAGE_CSS.now ++ b) ++ escaped text ++ trees_script ++ TREES_END.now) body_parts
      ∙ regroup TREES_HEAD.now PAGE_CSS.now (take front TREES_BODY.now) (codes "<pre id=\"conllu\">") (escaped text) TREES_SCRIPT.now ROWS_JS.now TREE_JS.now TREES_JS.now TREES_END.now
      ∙ ap (λ s. (TREES_HEAD.now ++ PAGE_CSS.now ++ take front TREES_BODY.now) ++ codes "<pre id=\"conllu\">" ++ escaped text ++ s ++ (ROWS_JS.now ++ TREE_JS.now ++ TREES_JS.now ++ TREES_END.now)) script_is,
)

pub ends : (text : List ℕ) → (before : List ℕ) × (trees_page text ≡ before ++ codes "</script>\n</body>\n</html>\n")
unfolding trees_page
ends text = (trees_head ++ escaped text ++ trees_script, ap (λ e. (trees_head ++ escaped text ++ trees_script) ++ e) end_is)
