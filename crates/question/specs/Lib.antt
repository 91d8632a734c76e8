pub mod QuestionRead
