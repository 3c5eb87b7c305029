-- What the program prints. To believe: Text, and Contract, which is what the public functions promise of a text. Numerals has what is proved of numbers in decimal;
-- what is proved of the report stands in proofs/Answers.antt, and the rules' example, computed, in proofs/Example.antt. Writer has the words of the inner contracts.
pub mod Text
pub mod Writer
pub mod Numerals
pub mod Contract
pub mod Example
