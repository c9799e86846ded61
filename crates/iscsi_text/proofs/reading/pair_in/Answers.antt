use Rattle.std.proofs.Common.{rules}
use Rattle.iscsi_text.proofs.PieceFaults.{not_utf8, no_equals_sign, empty_key, long_key, long_value, no_fault}
use Rattle.iscsi_text.proofs.reading.pair_in.Goals as goal

pub returns-in_default-clause-fault : goal.returns-in_default-clause-fault
returns-in_default-clause-fault c = not_utf8 _ (search rules) (search rules)

pub returns-in_default-split_once-clause-fault : goal.returns-in_default-split_once-clause-fault
returns-in_default-split_once-clause-fault c = no_equals_sign _ (search rules) (search rules) (search rules)

pub returns-then-is_empty-clause-fault : goal.returns-then-is_empty-clause-fault
returns-then-is_empty-clause-fault c = empty_key _ (search rules) (search rules) (search rules)

pub returns-then-key-gt-LONGEST_KEY-clause-fault :
    goal.returns-then-key-gt-LONGEST_KEY-clause-fault
returns-then-key-gt-LONGEST_KEY-clause-fault c = long_key _ (search rules) (search rules) (search rules) (search rules)

pub returns-then-value-gt-LONGEST_VALUE-clause-fault :
    goal.returns-then-value-gt-LONGEST_VALUE-clause-fault
returns-then-value-gt-LONGEST_VALUE-clause-fault c = long_value _ (search rules) (search rules) (search rules) (search rules) (search rules) (search rules)

pub returns-clause-whole : goal.returns-clause-whole
returns-clause-whole c = no_fault _ (search rules) (search rules) (search rules) (search rules) (search rules) (search rules)
