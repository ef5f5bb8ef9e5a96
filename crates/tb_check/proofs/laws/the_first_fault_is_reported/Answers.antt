use Rattle.tb_check.proofs.Reports.{line_first, none_at_all, rule_first, valid_none}
use Rattle.tb_check.proofs.laws.the_first_fault_is_reported.Goals as goal

pub returns-clause-line : goal.returns-clause-line
returns-clause-line c = line_first (record {
  no_line = c.faulty_lines_are_reported.ensures.none;
  first_line = c.faulty_lines_are_reported.ensures.first;
  one_list = c.one_list_has_a_text.ensures;
  begin = c.broken_rules_of_a_file_are_reported.ensures.begin;
  no_rule = c.broken_rules_of_a_file_are_reported.ensures.none;
  first_rule = c.broken_rules_of_a_file_are_reported.ensures.first;
  not_valid = c.faulty_sentences_are_not_valid.ensures;
})

pub returns-clause-rule : goal.returns-clause-rule
returns-clause-rule c = rule_first (record {
  no_line = c.faulty_lines_are_reported.ensures.none;
  first_line = c.faulty_lines_are_reported.ensures.first;
  one_list = c.one_list_has_a_text.ensures;
  begin = c.broken_rules_of_a_file_are_reported.ensures.begin;
  no_rule = c.broken_rules_of_a_file_are_reported.ensures.none;
  first_rule = c.broken_rules_of_a_file_are_reported.ensures.first;
  not_valid = c.faulty_sentences_are_not_valid.ensures;
})

pub returns-clause-none : goal.returns-clause-none
returns-clause-none c = none_at_all (record {
  no_line = c.faulty_lines_are_reported.ensures.none;
  first_line = c.faulty_lines_are_reported.ensures.first;
  one_list = c.one_list_has_a_text.ensures;
  begin = c.broken_rules_of_a_file_are_reported.ensures.begin;
  no_rule = c.broken_rules_of_a_file_are_reported.ensures.none;
  first_rule = c.broken_rules_of_a_file_are_reported.ensures.first;
  not_valid = c.faulty_sentences_are_not_valid.ensures;
})

pub returns-clause-valid : goal.returns-clause-valid
returns-clause-valid c = valid_none (record {
  no_line = c.faulty_lines_are_reported.ensures.none;
  first_line = c.faulty_lines_are_reported.ensures.first;
  one_list = c.one_list_has_a_text.ensures;
  begin = c.broken_rules_of_a_file_are_reported.ensures.begin;
  no_rule = c.broken_rules_of_a_file_are_reported.ensures.none;
  first_rule = c.broken_rules_of_a_file_are_reported.ensures.first;
  not_valid = c.faulty_sentences_are_not_valid.ensures;
})
