use Rattle.tb_query.proofs.laws.a_text_asks_one_thing.Goals as goal

pub returns : goal.returns
returns c text q r p s =
    let pattern = c.a_text_has_one_reading.ensures.pattern text q.pat r.pat q.tests r.tests p.0 s.0 in
    let tests = c.a_text_has_one_reading.ensures.tests text q.pat r.pat q.tests r.tests p.0 s.0 in
    λ i. record { pat = pattern i; tests = tests i }
