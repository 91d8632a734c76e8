pub mod QuestionEdges
