pub mod CasesHold
