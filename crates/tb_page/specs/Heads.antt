-- The responses of the page. Their heads keep other pages away from it: the Content Security Policy (level 3) lets it load
-- from its own place alone and be shown in no frame, and no answer is kept by the browser.
use Rattle.std.specs.Prelude.{ℕ, List, [], ◌++◌, codes, decimal, length, Option, Some, None}
use Rattle.http.specs.StatusCode.{code_digits}
use Rattle.tb_http.specs.declared.status.Status.{Status}
use Rattle.tb_http.specs.declared.actions.Allow.{Allow}
use Rattle.tb_http.specs.Heads.{allow_text}
use Rattle.tb_http.specs.Status.{code_of, phrase_of}
use Rattle.tb_page.specs.declared.heads.Kind.{Kind}
use Rattle.tb_page.specs.declared.heads.Kind.TheVariants as kind

-- the type of a body
abbrev pub kind_text : Kind → List ℕ
kind_text kind.Html = codes "text/html"
kind_text kind.Css = codes "text/css"
kind_text kind.JavaScript = codes "text/javascript"
kind_text kind.Plain = codes "text/plain"

-- what a page loads, and who may show it
abbrev pub content_policy : List ℕ
content_policy =
    codes "Content-Security-Policy: default-src 'none'; script-src 'self'; style-src 'self'; connect-src 'self'; "
    ++ codes "img-src data:; base-uri 'none'; form-action 'none'; frame-ancestors 'none'; "
    ++ codes "require-trusted-types-for 'script'; trusted-types 'none'\r\n"

-- who may read an answer
abbrev pub origin_policy : List ℕ
origin_policy =
    codes "X-Content-Type-Options: nosniff\r\nReferrer-Policy: no-referrer\r\nCache-Control: no-store\r\n"
    ++ codes "Cross-Origin-Resource-Policy: same-origin\r\nCross-Origin-Opener-Policy: same-origin\r\n"

-- where another method was asked for, those of the path
abbrev pub allowed : Option Allow → List ℕ
allowed (Some allow) = codes "Allow: " ++ allow_text allow ++ codes "\r\n"
allowed None = []

-- the head of a response: its status, the methods of the path where another was asked for, the type of its body, and the
-- length of that
abbrev pub page_head : Status → Option Allow → Kind → ℕ → List ℕ
page_head status allow kind n =
    codes "HTTP/1.1 " ++ code_digits (code_of status) ++ codes " " ++ phrase_of status
    ++ codes "\r\nContent-Type: " ++ kind_text kind ++ codes "; charset=utf-8\r\nContent-Length: " ++ decimal n
    ++ codes "\r\nConnection: close\r\n" ++ allowed allow ++ content_policy ++ origin_policy ++ codes "\r\n"

-- a response
abbrev pub page_response : Status → Kind → (body : List ℕ) → List ℕ
page_response status kind body = page_head status None kind (length body) ++ body
