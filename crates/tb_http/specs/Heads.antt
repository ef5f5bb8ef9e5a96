-- The head of a response (RFC 9112, section 4).
use Rattle.std.specs.Prelude.{ℕ, List, [], ◌++◌, codes, decimal, length, Option, Some, None}
use Rattle.http.specs.StatusCode.{code_digits}
use Rattle.tb_http.specs.declared.actions.Allow.{Allow}
use Rattle.tb_http.specs.declared.actions.Allow.TheVariants.{Get, Post, GetAndPost}
use Rattle.tb_http.specs.declared.heads.Extra.{Extra}
use Rattle.tb_http.specs.declared.heads.Extra.TheVariants as extra
use Rattle.tb_http.specs.declared.replies.Reply.{Reply}
use Rattle.tb_http.specs.declared.status.Status.{Status}
use Rattle.tb_http.specs.Replies.{reply_text, status_of, allow_in}
use Rattle.tb_http.specs.Status.{code_of, phrase_of}

-- the methods, as the header Allow lists them
abbrev pub allow_text : Allow → List ℕ
allow_text Get = codes "GET"
allow_text Post = codes "POST"
allow_text GetAndPost = codes "GET, POST"

-- the length of the body, if it is known
abbrev pub length_text : Option ℕ → List ℕ
length_text (Some n) = codes "Content-Length: " ++ decimal n ++ codes "\r\n"
length_text None = []

-- the header that the desk adds
abbrev pub extra_text : Extra → List ℕ
extra_text extra.Nothing = []
extra_text (extra.Revision r) = codes "Desk-Revision: " ++ decimal r ++ codes "\r\n"
extra_text (extra.Allowed allow) = codes "Allow: " ++ allow_text allow ++ codes "\r\n"

-- the head of a response: its status, the length of its body, and the header that the desk adds
abbrev pub head_text : Status → Option ℕ → Extra → List ℕ
head_text status length more =
    codes "HTTP/1.1 " ++ code_digits (code_of status) ++ codes " " ++ phrase_of status
    ++ codes "\r\nContent-Type: text/plain; charset=utf-8\r\n" ++ length_text length
    ++ codes "Connection: close\r\n" ++ extra_text more ++ codes "\r\n"

-- the header of a reply
abbrev pub extra_for : Option Allow → Extra
extra_for (Some allow) = extra.Allowed allow
extra_for None = extra.Nothing

-- the head of a response whose body is a reply's line
abbrev pub reply_head : Reply → List ℕ
reply_head r = head_text (status_of r) (Some (length (reply_text r))) (extra_for (allow_in r))
